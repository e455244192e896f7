-- `keeping::closed` meets its contract. Assumes nothing.
use mathlib.Core.Path.{◌≡◌, ◌∙◌, ap, sym}
use mathlib.Core.Bool.{cond}
use Prim.Native.Nat.{ℕ}
use borrow.Author.Rules.{rules}
use lib.ListN.{length}
use Rattle.tables.proofs.Maps.{unmapped}
use Rattle.keeping.proofs.Closing.{end_figure, spare_is, backed_kept, beside_kept}
use Rattle.keeping.proofs.closed.Goals as goal
use Rattle.keeping.proofs.closed.Goals.{then-reads, else-reads}

pub returns-then-is_spare : goal.returns-then-is_spare
returns-then-is_spare c =
    let a = c.args in
    let e : c.if-reads.source ≡ (cond c.is_reading-reads.result c.need-its.result c.need-mine.result, cond c.is_reading-reads.result c.need-mine.result c.need-its.result) =
    elim c.if-reads.branch [ then-reads w ↦ rw (w.if-reads.true) w.source-is | else-reads w ↦ rw (w.if-reads.false) w.source-is ] in
    let l : length a.objects ≡ 64 = search (c.well_formed.1.1.1.0, rules, unmapped) in
    λ rest t p m w g q k. backed_kept rest a.subjects a.objects a.handles l a.n t a.s p a.h w g k q c.object_of-y.result c.object_of-y.ensures
    (spare_is a.n a.h a.s c.is_reading-reads.ensures c.need-mine.ensures c.need-its.ensures _ _ _ _ _ (ap (λ (q : ℕ × ℕ). q.1) e) (ap (λ (q : ℕ × ℕ). q.0) e)
    c.backing-own.ensures c.is_spare.ensures c.if-is_spare.true)

pub returns-then-is_spare-2 : goal.returns-then-is_spare-2
returns-then-is_spare-2 c =
    let a = c.args in
    let e : c.if-reads.source ≡ (cond c.is_reading-reads.result c.need-its.result c.need-mine.result, cond c.is_reading-reads.result c.need-mine.result c.need-its.result) =
    elim c.if-reads.branch [ then-reads w ↦ rw (w.if-reads.true) w.source-is | else-reads w ↦ rw (w.if-reads.false) w.source-is ] in
    let l : length a.objects ≡ 64 = search (c.well_formed.1.1.1.0, rules, unmapped) in
    λ rest t p m w g q k. beside_kept rest a.subjects a.objects a.handles l a.n t a.s p a.h w g k q
    (sym c.is_reading-reads.ensures ∙ c.if-not-reads.true)
    (spare_is a.n a.h a.s c.is_reading-reads.ensures c.need-mine.ensures c.need-its.ensures _ _ _ _ _ (ap (λ (q : ℕ × ℕ). q.1) e) (ap (λ (q : ℕ × ℕ). q.0) e)
    c.beside-all.ensures c.is_spare-then-not-reads.ensures c.if-is_spare-2.true)

pub returns : goal.returns
returns c =
    let a = c.args in
    let e : c.if-reads.source ≡ (cond c.is_reading-reads.result c.need-its.result c.need-mine.result, cond c.is_reading-reads.result c.need-mine.result c.need-its.result) =
    elim c.if-reads.branch [ then-reads w ↦ rw (w.if-reads.true) w.source-is | else-reads w ↦ rw (w.if-reads.false) w.source-is ] in
    λ rest t p m w g q k. c.sunk.ensures rest t p m w g q k
    (end_figure a.n a.h a.s c.is_reading-reads.ensures c.need-mine.ensures c.need-its.ensures (ap (λ (q : ℕ × ℕ). q.1) e))
