-- `groups::leads` meets its contract. Assumes nothing.
use Rattle.std.proofs.Common.{rules, refl, ℕ, ◌<◌, arith, get_or, Fits, w8}
use borrow.Author.Tests.{eq-eqb, ne_eqb}
use Rattle.groups.proofs.Leading.{led_none, led_off, led_on, led_leads}
use Rattle.groups.proofs.leads.Goals as goal
use Rattle.groups.proofs.leads.Goals.{then-x-ne0, else-x-ne0}

pub loop-s-init : goal.loop-s-init
loop-s-init c = led_none _ _

pub loop-s-preserved : goal.loop-s-preserved
loop-s-preserved c =
    let a = c.args in
    let low : ((x : ℕ) → get_or a.groups x 0 < 256) = (λ x. let f : Fits w8 (get_or a.groups x 0) = search rules in omega arith) in
    elim c.if-x-ne0.branch [
      | then-x-ne0 w ↦ rw (w.first-is, w.lead-is, w.unwrap_or-lead.ensures) (led_on a.subjects a.groups low _ _ c.loop-s.s (omega arith) c.loop-s.invariant (rw (ne_eqb _ 0 w.if-x-ne0.true) tt) _ refl)
      | else-x-ne0 w ↦ rw (w.first-is, w.lead-is) (led_off a.subjects a.groups low _ _ c.loop-s.s (omega arith) c.loop-s.invariant (rw (eq-eqb _ 0 w.if-x-ne0.false) tt))
    ]

pub returns : goal.returns
returns c =
    let a = c.args in
    let low : ((x : ℕ) → get_or a.groups x 0 < 256) = (λ x. let f : Fits w8 (get_or a.groups x 0) = search rules in omega arith) in
    led_leads a.subjects a.groups low _ _ _ c.loop-s-test.false c.loop-s.invariant
