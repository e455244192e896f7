-- `quick::opened` meets its contract. Assumes nothing.
use Rattle.std.proofs.Common.{◌≡◌, ℕ, true, false, ◌||◌, eqb, [], ◌∷◌, refl, sym, ap, ap₂, ◌∙◌, arith, eq-eqb, ne_eqb}
use Rattle.tables.specs.Working.{joining}
use Rattle.labels.specs.Codes.{coded}
use Rattle.passes.specs.Working.{falls_by}
use Rattle.passes.proofs.Raising.{true_false}
use Rattle.answers.specs.Telling.{number_in}
use Rattle.quick.specs.Parts.{Whole}
use Rattle.quick.proofs.Doing.{Same, as_arrays, tried_done, tried_left}
use Rattle.quick.proofs.Opening.{code_opens, either_left, either_right, neither, open_refused, open_left, open_frozen, open_done}
use Rattle.quick.proofs.opened.Goals as goal
use Rattle.quick.proofs.opened.Goals.{then-reads, else-reads}

pub returns-then-not-opens : goal.returns-then-not-opens
returns-then-not-opens c =
    let a = c.args in
    let v = c.in_ok-parts.parts in
    let sb = v.subjects.now in
    let ob = v.objects.now in
    let hb = c.in_ok-handles.handles.now in
    let nb = v.needs.now in
    let cs = c.in_ok-counts.counts.now in
    let l = c.in_ok-parts.ensures.whole.0 refl in
    let ns = c.in_ok-numbers.numbers.now in
    let same : Same a.numbers.now a.subjects.now a.objects.now a.handles.now a.needs.now a.counts.now ns sb ob hb nb cs =
    record { numbers = c.in_ok-numbers.ensures.cases.same; subjects = c.in_ok-parts.ensures.same.0; objects = c.in_ok-parts.ensures.same.1; handles = c.in_ok-handles.ensures.cases.same; needs = c.in_ok-parts.ensures.same.2; counts = c.in_ok-counts.ensures.cases.1 } in
    let whole : Whole a.numbers.now a.subjects.now a.objects.now a.handles.now a.needs.now a.counts.now =
    record { numbers = c.in_ok-numbers.ensures.cases.long; subjects = l.0; objects = l.1; handles = c.in_ok-handles.ensures.cases.long; needs = l.2; counts = c.in_ok-counts.ensures.cases.0 } in
    let shut : (eqb a.code 5 || eqb a.code 6) ≡ false = elim c.if-reads.branch [ then-reads w ↦ true_false (sym (eq-eqb a.code 5 w.if-reads.true) ∙ sym w.opens-is ∙ c.if-not-opens.true) | else-reads w ↦ neither a.code (ne_eqb a.code 5 w.if-reads.false) (sym w.opens-is ∙ c.if-not-opens.true) ] in
    as_arrays (5 ∷ 6 ∷ []) same whole (λ w. tried_left (5 ∷ 6 ∷ []) (λ gs lg i one h. true_false (sym (code_opens a.code i) ∙ shut)))

pub returns-in-Err : goal.returns-in-Err
returns-in-Err c =
    let a = c.args in
    let v = c.in_ok-parts.parts in
    let sb = v.subjects.now in
    let ob = v.objects.now in
    let hb = c.in_ok-handles.handles.now in
    let nb = v.needs.now in
    let cs = c.in_ok-counts.counts.now in
    let l = c.in_ok-parts.ensures.whole.0 refl in
    let ns = c.in_ok-numbers.numbers.now in
    let same : Same a.numbers.now a.subjects.now a.objects.now a.handles.now a.needs.now a.counts.now ns sb ob hb nb cs =
    record { numbers = c.in_ok-numbers.ensures.cases.same; subjects = c.in_ok-parts.ensures.same.0; objects = c.in_ok-parts.ensures.same.1; handles = c.in_ok-handles.ensures.cases.same; needs = c.in_ok-parts.ensures.same.2; counts = c.in_ok-counts.ensures.cases.1 } in
    let whole : Whole a.numbers.now a.subjects.now a.objects.now a.handles.now a.needs.now a.counts.now =
    record { numbers = c.in_ok-numbers.ensures.cases.long; subjects = l.0; objects = l.1; handles = c.in_ok-handles.ensures.cases.long; needs = l.2; counts = c.in_ok-counts.ensures.cases.0 } in
    let opens : (eqb a.code 5 || eqb a.code 6) ≡ true = elim c.if-reads.branch [ then-reads w ↦ either_left a.code (eq-eqb a.code 5 w.if-reads.true) | else-reads w ↦ either_right a.code (sym w.opens-is ∙ c.if-not-opens.false) ] in
    as_arrays (5 ∷ 6 ∷ []) same whole (λ w. tried_done (5 ∷ 6 ∷ []) w (omega arith) (λ gs lg. open_refused gs lg ns sb ob hb nb cs a.freeze a.sure a.code a.s a.o c.slot_in-i.result a.p w c.if-sure-ne-SURE.false c.slot_in-i.ensures opens c.subject_in-x.result c.object_in-y.result c.handle_in-h.result (number_in c.of_open.result) c.subject_in-x.ensures.there c.object_in-y.ensures.there c.handle_in-h.ensures c.of_open.ensures c.in-Err.refusal (ap number_in c.in-Err.is)))

pub returns-then-frozen : goal.returns-then-frozen
returns-then-frozen c =
    let a = c.args in
    let v = c.in_ok-parts.parts in
    let sb = v.subjects.now in
    let ob = v.objects.now in
    let hb = c.in_ok-handles.handles.now in
    let nb = v.needs.now in
    let cs = c.in_ok-counts.counts.now in
    let l = c.in_ok-parts.ensures.whole.0 refl in
    let ns = c.in_ok-numbers.numbers.now in
    let same : Same a.numbers.now a.subjects.now a.objects.now a.handles.now a.needs.now a.counts.now ns sb ob hb nb cs =
    record { numbers = c.in_ok-numbers.ensures.cases.same; subjects = c.in_ok-parts.ensures.same.0; objects = c.in_ok-parts.ensures.same.1; handles = c.in_ok-handles.ensures.cases.same; needs = c.in_ok-parts.ensures.same.2; counts = c.in_ok-counts.ensures.cases.1 } in
    let whole : Whole a.numbers.now a.subjects.now a.objects.now a.handles.now a.needs.now a.counts.now =
    record { numbers = c.in_ok-numbers.ensures.cases.long; subjects = l.0; objects = l.1; handles = c.in_ok-handles.ensures.cases.long; needs = l.2; counts = c.in_ok-counts.ensures.cases.0 } in
    let opens : (eqb a.code 5 || eqb a.code 6) ≡ true = elim c.if-reads.branch [ then-reads w ↦ either_left a.code (eq-eqb a.code 5 w.if-reads.true) | else-reads w ↦ either_right a.code (sym w.opens-is ∙ c.if-not-opens.false) ] in
    as_arrays (5 ∷ 6 ∷ []) same whole (λ w. tried_done (5 ∷ 6 ∷ []) w (omega arith) (λ gs lg. open_frozen gs lg ns sb ob hb nb cs a.freeze a.sure a.code a.s a.o c.slot_in-i.result a.p w c.if-sure-ne-SURE.false c.slot_in-i.ensures opens c.subject_in-x.result c.object_in-y.result c.handle_in-h.result (number_in c.of_open.result) c.subject_in-x.ensures.there c.object_in-y.ensures.there c.handle_in-h.ensures c.of_open.ensures (ap number_in c.in_default.is) c.is_frozen-frozen.result c.is_frozen-frozen.ensures c.if-frozen.true))

pub returns-then-not-down : goal.returns-then-not-down
returns-then-not-down c =
    let a = c.args in
    let v = c.in_ok-parts.parts in
    let sb = v.subjects.now in
    let ob = v.objects.now in
    let hb = c.in_ok-handles.handles.now in
    let nb = v.needs.now in
    let cs = c.in_ok-counts.counts.now in
    let l = c.in_ok-parts.ensures.whole.0 refl in
    let ns = c.in_ok-numbers.numbers.now in
    let same : Same a.numbers.now a.subjects.now a.objects.now a.handles.now a.needs.now a.counts.now ns sb ob hb nb cs =
    record { numbers = c.in_ok-numbers.ensures.cases.same; subjects = c.in_ok-parts.ensures.same.0; objects = c.in_ok-parts.ensures.same.1; handles = c.in_ok-handles.ensures.cases.same; needs = c.in_ok-parts.ensures.same.2; counts = c.in_ok-counts.ensures.cases.1 } in
    let whole : Whole a.numbers.now a.subjects.now a.objects.now a.handles.now a.needs.now a.counts.now =
    record { numbers = c.in_ok-numbers.ensures.cases.long; subjects = l.0; objects = l.1; handles = c.in_ok-handles.ensures.cases.long; needs = l.2; counts = c.in_ok-counts.ensures.cases.0 } in
    let opens : (eqb a.code 5 || eqb a.code 6) ≡ true = elim c.if-reads.branch [ then-reads w ↦ either_left a.code (eq-eqb a.code 5 w.if-reads.true) | else-reads w ↦ either_right a.code (sym w.opens-is ∙ c.if-not-opens.false) ] in
    as_arrays (5 ∷ 6 ∷ []) same whole (λ w. tried_left (5 ∷ 6 ∷ []) (λ gs lg i one. open_left gs lg ns sb ob hb nb cs a.freeze a.sure a.code a.s a.o c.slot_in-i.result a.p w one c.slot_in-i.ensures opens c.subject_in-x.result c.object_in-y.result c.handle_in-h.result (number_in c.of_open.result) c.subject_in-x.ensures.there c.object_in-y.ensures.there c.handle_in-h.ensures c.of_open.ensures (ap number_in c.in_default.is) c.is_frozen-frozen.result c.is_frozen-frozen.ensures c.if-frozen.false (sym (c.falls-down.ensures ∙ ap₂ (λ (i j : ℕ). falls_by (eqb a.code 5) (coded i) (coded j)) c.subject_need-mine.ensures c.object_need-its.ensures) ∙ c.if-not-down.true)))

pub returns : goal.returns
returns c =
    let a = c.args in
    let v = c.in_ok-parts.parts in
    let sb = v.subjects.now in
    let ob = v.objects.now in
    let hb = c.in_ok-handles.handles.now in
    let nb = v.needs.now in
    let cs = c.in_ok-counts.counts.now in
    let l = c.in_ok-parts.ensures.whole.0 refl in
    let ns = c.in_ok-numbers.numbers.now in
    let same : Same a.numbers.now a.subjects.now a.objects.now a.handles.now a.needs.now a.counts.now ns sb ob hb nb cs =
    record { numbers = c.in_ok-numbers.ensures.cases.same; subjects = c.in_ok-parts.ensures.same.0; objects = c.in_ok-parts.ensures.same.1; handles = c.in_ok-handles.ensures.cases.same; needs = c.in_ok-parts.ensures.same.2; counts = c.in_ok-counts.ensures.cases.1 } in
    let whole : Whole a.numbers.now a.subjects.now a.objects.now a.handles.now a.needs.now a.counts.now =
    record { numbers = c.in_ok-numbers.ensures.cases.long; subjects = l.0; objects = l.1; handles = c.in_ok-handles.ensures.cases.long; needs = l.2; counts = c.in_ok-counts.ensures.cases.0 } in
    let opens : (eqb a.code 5 || eqb a.code 6) ≡ true = elim c.if-reads.branch [ then-reads w ↦ either_left a.code (eq-eqb a.code 5 w.if-reads.true) | else-reads w ↦ either_right a.code (sym w.opens-is ∙ c.if-not-opens.false) ] in
    as_arrays (5 ∷ 6 ∷ []) same whole (λ w. tried_done (5 ∷ 6 ∷ []) w (omega arith) (λ gs lg. open_done gs lg ns sb ob hb nb cs a.freeze a.sure a.code a.s a.o c.slot_in-i.result a.p w c.if-sure-ne-SURE.false c.slot_in-i.ensures opens c.subject_in-x.result c.object_in-y.result c.handle_in-h.result (number_in c.of_open.result) c.subject_in-x.ensures.there c.object_in-y.ensures.there c.handle_in-h.ensures c.of_open.ensures (ap number_in c.in_default.is) c.is_frozen-frozen.result c.is_frozen-frozen.ensures c.if-frozen.false c.joining-new.result
    (c.joining-new.ensures ∙ ap (λ (i : ℕ). joining i c.slot_in-i.result) c.way_of.ensures) (sym (c.falls-down.ensures ∙ ap₂ (λ (i j : ℕ). falls_by (eqb a.code 5) (coded i) (coded j)) c.subject_need-mine.ensures c.object_need-its.ensures) ∙ c.if-not-down.false) c.put.new.handles c.count.new.counts c.put.ensures c.count.ensures c.object_in-y.ensures.byte))
