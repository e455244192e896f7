-- A figure that is stored is that of one thing, and of no other. Assumes nothing.
use Rattle.std.specs.Prelude.{◌≡◌, Bool, true, false, cond, List, ℕ, ◌<◌, length, set, T}
use Rattle.std.proofs.Common.{sym, ◌∙◌, ap, subst, arith, get_or-set_same, get_or-set_other, ltb→lt}
use Rattle.model.specs.Label.{Label}
use Rattle.labels.specs.Codes.{coded}
use Rattle.model.specs.Flow.{Thing, subject, object, same}
use Rattle.model.proofs.Flow.Laws.{same→eq, same_refl}
use Rattle.model.proofs.Flow.Changes.{but}
use Rattle.model.specs.Tables.{Tables, in_range}
use Rattle.model.specs.Figures.{Ready}
use Rattle.model.proofs.Figures.Laws.{ready_by}
use Rattle.tables.specs.Needs.{node, housed, figure_of}

pub node_low : (x : Thing) → T (housed x) → node x < 96
node_low (subject n) h = let l : n < 32 = ltb→lt n 32 h in omega arith
node_low (object n) h = let l : n < 64 = ltb→lt n 64 h in omega arith

pub housed_range : (x : Thing) → T (housed x) → T (in_range x)
housed_range (subject n) h = h
housed_range (object n) h = tt

-- two things in range have two numbers
node_apart : (x y : Thing) → T (in_range x) → T (in_range y) → (x ≡ y → ⊥) → node y ≡ node x → ⊥
node_apart (subject a) (subject b) g h n q = n (ap subject (sym q))
node_apart (subject a) (object b) g h n q = let l : a < 32 = ltb→lt a 32 g in omega arith
node_apart (object a) (subject b) g h n q = let l : b < 32 = ltb→lt b 32 h in omega arith
node_apart (object a) (object b) g h n q = n (ap object (omega arith))

module _ (r : List ℕ) (z : Thing) (v : ℕ) (l : length r ≡ 96) (g : T (housed z)) where
  figure_set : (x : Thing) → T (in_range x) → figure_of (set r (node z) v) x ≡ but (figure_of r) z (coded v) x
  figure_set x h = go (same z x) (same→eq z x) (λ p. subst (λ (y : Thing). T (same z y)) p (same_refl z))
    where
      go : (b : Bool) → (T b → z ≡ x) → (z ≡ x → T b) → figure_of (set r (node z) v) x ≡ cond b (coded v) (figure_of r x)
      go true p q = subst (λ (y : Thing). figure_of (set r (node z) v) y ≡ coded v) (p tt)
          (ap coded (get_or-set_same r (node z) v 0 (omega (arith, node_low z g))))
      go false p q = ap coded (get_or-set_other r (node z) (node x) v 0 (node_apart z x (housed_range z g) h q))

  -- the figures with that of one thing set
  pub set_ready : (t : Tables) (w : Label) → coded v ≡ w → Ready t (but (figure_of r) z w) → Ready t (figure_of (set r (node z) v))
  set_ready t w e k = ready_by t (but (figure_of r) z w) (figure_of (set r (node z) v))
      (λ x h. figure_set x h ∙ ap (λ (y : Label). but (figure_of r) z y x) e) k
