-- `quick::closed` meets its contract. Assumes nothing.
use mathlib.Core.Path.{◌≡◌, refl, sym, ap, ◌∙◌}
use mathlib.Core.List.{[], ◌∷◌}
use Rattle.answers.specs.Telling.{number_in}
use mathlib.Core.Bool.{Bool, cond}
use Prim.Native.Nat.{ℕ}
use native.Mathlib.Omega.{arith}
use Rattle.labels.specs.Codes.{coded}
use Rattle.tables.specs.declared.Object.{Object}
use Rattle.tables.specs.declared.Handle.{Handle}
use Rattle.tables.specs.Records.{reads_by}
use Rattle.passes.specs.Working.{spare_by, backed_by}
use Rattle.passes.proofs.Raising.{true_false}
use Rattle.quick.specs.Parts.{Whole}
use Rattle.quick.proofs.Doing.{Same, as_arrays, tried_done, tried_left}
use Rattle.quick.proofs.Closing.{close_refused, close_loud, close_ended, close_done}
use Rattle.quick.proofs.closed.Goals as goal

-- what is said of the needs that were read, of those that stand there

told : (h : Handle) (y : Object) {i j a b : ℕ} {r v : Bool} → r ≡ spare_by (coded (cond (reads_by h.way) i j)) (coded (cond (reads_by h.way) j i)) (backed_by h y)
    → i ≡ a → j ≡ b → r ≡ v → spare_by (coded (cond (reads_by h.way) a b)) (coded (cond (reads_by h.way) b a)) (backed_by h y) ≡ v
told h y t e f q = rw (sym e, sym f) (sym t ∙ q)

pub returns-in-Err : goal.returns-in-Err
returns-in-Err c =
    let a = c.args in
    let v = c.in_ok-parts.parts in
    let sb = v.subjects.now in
    let ob = v.objects.now in
    let hb = c.in_ok-handles.handles.now in
    let nb = v.needs.now in
    let cs = c.in_ok-counts.counts.now in
    let l = c.in_ok-parts.ensures.whole.0 refl in
    λ ns ln. let same : Same ns a.subjects.now a.objects.now a.handles.now a.needs.now a.counts.now ns sb ob hb nb cs =
    record { numbers = refl; subjects = c.in_ok-parts.ensures.same.0; objects = c.in_ok-parts.ensures.same.1; handles = c.in_ok-handles.ensures.cases.same; needs = c.in_ok-parts.ensures.same.2; counts = c.in_ok-counts.ensures.cases.1 } in
    let whole : Whole ns a.subjects.now a.objects.now a.handles.now a.needs.now a.counts.now =
    record { numbers = ln; subjects = l.0; objects = l.1; handles = c.in_ok-handles.ensures.cases.long; needs = l.2; counts = c.in_ok-counts.ensures.cases.0 } in
    as_arrays (11 ∷ []) same whole (λ w. tried_done (11 ∷ []) w (omega arith) (λ gs lg. close_refused gs lg ns sb ob hb nb cs a.freeze a.sure a.s a.p w c.if-sure-ne-SURE.false c.subject_in-x.result c.handle_in-h.result (number_in c.of_held.result) c.subject_in-x.ensures.there c.handle_in-h.ensures c.of_held.ensures c.in-Err.refusal (ap number_in c.in-Err.is)))

pub returns-then-not-is_quiet : goal.returns-then-not-is_quiet
returns-then-not-is_quiet c =
    let a = c.args in
    let v = c.in_ok-parts.parts in
    let sb = v.subjects.now in
    let ob = v.objects.now in
    let hb = c.in_ok-handles.handles.now in
    let nb = v.needs.now in
    let cs = c.in_ok-counts.counts.now in
    let l = c.in_ok-parts.ensures.whole.0 refl in
    λ ns ln. let same : Same ns a.subjects.now a.objects.now a.handles.now a.needs.now a.counts.now ns sb ob hb nb cs =
    record { numbers = refl; subjects = c.in_ok-parts.ensures.same.0; objects = c.in_ok-parts.ensures.same.1; handles = c.in_ok-handles.ensures.cases.same; needs = c.in_ok-parts.ensures.same.2; counts = c.in_ok-counts.ensures.cases.1 } in
    let whole : Whole ns a.subjects.now a.objects.now a.handles.now a.needs.now a.counts.now =
    record { numbers = ln; subjects = l.0; objects = l.1; handles = c.in_ok-handles.ensures.cases.long; needs = l.2; counts = c.in_ok-counts.ensures.cases.0 } in
    as_arrays (11 ∷ []) same whole (λ w. tried_left (11 ∷ []) (λ gs lg i one h. close_loud gs lg ns sb ob hb nb cs a.freeze a.sure a.s a.p w one c.subject_in-x.result c.handle_in-h.result (number_in c.of_held.result) c.subject_in-x.ensures.there c.handle_in-h.ensures c.of_held.ensures (ap number_in c.in_default.is) c.object_in-y.result c.object_in-y.ensures.there h (told c.handle_in-h.result c.object_in-y.result c.is_quiet.ensures c.subject_need-mine.ensures c.object_need-its.ensures c.if-not-is_quiet.true)))

pub returns-then-not-is_outlived : goal.returns-then-not-is_outlived
returns-then-not-is_outlived c =
    let a = c.args in
    let v = c.in_ok-parts.parts in
    let sb = v.subjects.now in
    let ob = v.objects.now in
    let hb = c.in_ok-handles.handles.now in
    let nb = v.needs.now in
    let cs = c.in_ok-counts.counts.now in
    let l = c.in_ok-parts.ensures.whole.0 refl in
    λ ns ln. let same : Same ns a.subjects.now a.objects.now a.handles.now a.needs.now a.counts.now ns sb ob hb nb cs =
    record { numbers = refl; subjects = c.in_ok-parts.ensures.same.0; objects = c.in_ok-parts.ensures.same.1; handles = c.in_ok-handles.ensures.cases.same; needs = c.in_ok-parts.ensures.same.2; counts = c.in_ok-counts.ensures.cases.1 } in
    let whole : Whole ns a.subjects.now a.objects.now a.handles.now a.needs.now a.counts.now =
    record { numbers = ln; subjects = l.0; objects = l.1; handles = c.in_ok-handles.ensures.cases.long; needs = l.2; counts = c.in_ok-counts.ensures.cases.0 } in
    as_arrays (11 ∷ []) same whole (λ w. tried_left (11 ∷ []) (λ gs lg i one h. close_ended gs lg ns sb ob hb nb cs a.freeze a.sure a.s a.p w one c.subject_in-x.result c.handle_in-h.result (number_in c.of_held.result) c.subject_in-x.ensures.there c.handle_in-h.ensures c.of_held.ensures (ap number_in c.in_default.is) c.object_in-y.result c.object_in-y.ensures.there h c.slot_of-at.result c.slot_of-at.ensures (λ v. true_false (sym (c.is_outlived.ensures.1 v) ∙ c.if-not-is_outlived.true))))

pub returns : goal.returns
returns c =
    let a = c.args in
    let v = c.in_ok-parts.parts in
    let sb = v.subjects.now in
    let ob = v.objects.now in
    let hb = c.in_ok-handles.handles.now in
    let nb = v.needs.now in
    let cs = c.in_ok-counts.counts.now in
    let l = c.in_ok-parts.ensures.whole.0 refl in
    λ ns ln. let same : Same ns a.subjects.now a.objects.now a.handles.now a.needs.now a.counts.now ns sb ob hb nb cs =
    record { numbers = refl; subjects = c.in_ok-parts.ensures.same.0; objects = c.in_ok-parts.ensures.same.1; handles = c.in_ok-handles.ensures.cases.same; needs = c.in_ok-parts.ensures.same.2; counts = c.in_ok-counts.ensures.cases.1 } in
    let whole : Whole ns a.subjects.now a.objects.now a.handles.now a.needs.now a.counts.now =
    record { numbers = ln; subjects = l.0; objects = l.1; handles = c.in_ok-handles.ensures.cases.long; needs = l.2; counts = c.in_ok-counts.ensures.cases.0 } in
    as_arrays (11 ∷ []) same whole (λ w. tried_done (11 ∷ []) w (omega arith) (λ gs lg. close_done gs lg ns sb ob hb nb cs a.freeze a.sure a.s a.p w c.if-sure-ne-SURE.false c.subject_in-x.result c.handle_in-h.result (number_in c.of_held.result) c.subject_in-x.ensures.there c.handle_in-h.ensures c.of_held.ensures (ap number_in c.in_default.is) c.object_in-y.result c.object_in-y.ensures.there (told c.handle_in-h.result c.object_in-y.result c.is_quiet.ensures c.subject_need-mine.ensures c.object_need-its.ensures c.if-not-is_quiet.false) c.slot_of-at.result c.slot_of-at.ensures
    (c.is_outlived.ensures.0 c.if-not-is_outlived.false) c.put.new.handles c.count.new.counts c.put.ensures c.count.ensures c.subject_in-x.ensures.byte))
