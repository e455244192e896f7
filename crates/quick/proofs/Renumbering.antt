-- What is settled of an open or a close goes by no number that an object has: settled on some tables, it is settled on them renumbered. Assumes nothing.
use mathlib.Core.Path.{◌≡◌, refl, sym, ◌∙◌, ap, subst, subst₂}
use mathlib.Core.Option.{Option, none, some, none-ne-some, some-injective}
use mathlib.Core.List.{List}
use Prim.Native.Nat.{ℕ, ◌<◌}
use native.Mathlib.Omega.{arith}
use lib.ListN.{length}
use lib.Dec.{T}
use Rattle.model.specs.Label.{Label, bot}
use Rattle.model.specs.Flow.{Thing, subject, object}
use Rattle.model.specs.Tables.{Dir, reading, writing, Handle, Tables, arc, demand, needs}
use Rattle.model.specs.Calls.{Call, opens, close, refusal, effect}
use Rattle.model.proofs.Calls.Needs.{needs_numbers}
use Rattle.model.proofs.Calls.Renaming.{Renumbers, call, thing, joined, held, ren, at_there, live_ren, needs_ren, demands_ren, refusal_ren, effect_ren}
use Rattle.passes.specs.Working.{spare_by}
use Rattle.quick.specs.Parts.{demanded_at, Loose, Settles}

module _ (ρ σ : ℕ → ℕ) (v : Renumbers ρ σ) (l : List ℕ) (t : Tables) (long : length l ≡ length t.numbers) where
  abbrev u : Tables
  u = ren ρ σ v l t

  abbrev there : Thing → Thing
  there x = thing ρ σ v l x

  abbrev by : Call → Call
  by c = call ρ σ v l c

  same_refusal : (c : Call) → refusal u (by c) ≡ refusal t c
  same_refusal c = refusal_ren ρ σ v l t long c

  -- what a call leaves
  needs_after : (c : Call) (x : Thing) → needs (effect u (by c)) (there x) ≡ needs (effect t c) x
  needs_after c x = ap (λ (z : Tables). needs z (there x)) (effect_ren ρ σ v l t c) ∙ needs_numbers (ren ρ σ v l (effect t c)) _ (there x) ∙ needs_ren ρ σ v l (effect t c) x

  at_after : (c : Call) (x : Thing) → (effect u (by c)).at (there x) ≡ (effect t c).at x
  at_after c x = ap (λ (z : Tables). z.at (there x)) (effect_ren ρ σ v l t c) ∙ at_there ρ σ v l (effect t c) x

  pub open_ren : (d : Dir) (s o p n : ℕ) → Settles t (opens d s o p) n → Settles (ren ρ σ v l t) (call ρ σ v l (opens d s o p)) n
  open_ren d s o p n z = record {
    refusing = λ j q ne. z.refusing j (sym (same_refusal (opens d s o p)) ∙ q) ne;
    opening = λ d' s' o' p' e q stay. z.opening d s o p refl (sym (same_refusal (opens d s o p)) ∙ q)
        (λ x h. sym (needs_after (opens d s o p) x) ∙ stay (there x) (subst T (sym (live_ren ρ σ v l t x)) h) ∙ needs_ren ρ σ v l t x);
    closing = λ s' p' k e. let y : ◌≡◌ {A = ℕ} 0 1 = cc in absurd (omega arith);
  }

  -- the handle at a place
  loose_ren : (s : ℕ) (k : Handle) → Loose u s (joined ρ σ v l k) → Loose t s k
  loose_ren s k = go k.dir
    where
      mine : needs u (subject s) ≡ needs t (subject s)
      mine = needs_ren ρ σ v l t (subject s)

      its : needs u (object (ρ k.to)) ≡ needs t (object k.to)
      its = needs_ren ρ σ v l t (object k.to)

      go : (d : Dir) → T (spare_by (needs u (arc d (subject s) (object (ρ k.to))).dst) (needs u (arc d (subject s) (object (ρ k.to))).src) (demanded_at u (record { dir = d; to = ρ k.to; marked = k.marked; mapped = k.mapped })))
          → T (spare_by (needs t (arc d (subject s) (object k.to)).dst) (needs t (arc d (subject s) (object k.to)).src) (demanded_at t (record { dir = d; to = k.to; marked = k.marked; mapped = k.mapped })))
      go reading z = subst₂ (λ (a b : Label). T (spare_by (needs t (subject s)) a b)) its (demands_ren ρ σ v l t (object k.to))
          (subst (λ (a : Label). T (spare_by a (needs u (object (ρ k.to))) (demand (object (ρ k.to)) (u.at (object (ρ k.to)))))) mine z)
      go writing z = subst₂ (λ (a b : Label). T (spare_by a b bot)) its mine z

  pub close_ren : (s p n : ℕ) → Settles t (close s p) n → Settles (ren ρ σ v l t) (call ρ σ v l (close s p)) n
  close_ren s p n z = record {
    refusing = λ j q ne. z.refusing j (sym (same_refusal (close s p)) ∙ q) ne;
    opening = λ d s' o p' e. let y : ◌≡◌ {A = ℕ} 0 1 = cc in absurd (omega arith);
    closing = λ s' p' k e q. (let a : s' ≡ s = cc in let b : p' ≡ p = cc in
        λ at loose stays. go (t.hand s p) refl k (subst₂ (λ (x y : ℕ). u.hand x y ≡ some k) a b at) (subst (λ (x : ℕ). Loose u x k) a loose) stays (sym (same_refusal (close s p)) ∙ q));
  }
    where
      go : (o : Option Handle) → t.hand s p ≡ o → (k : Handle) → held ρ σ v l (t.hand s p) ≡ some k → Loose u s k
          → (effect u (by (close s p))).at (object k.to) ≡ u.at (object k.to) → refusal t (close s p) ≡ none → 0 < n
      go none e k at loose stays q = absurd (none-ne-some k (sym (ap (held ρ σ v l) e) ∙ at))
      go (some j) e k at loose stays q = let f = some-injective k (joined ρ σ v l j) (sym at ∙ ap (held ρ σ v l) e) in
          z.closing s p j refl q e (loose_ren s j (subst (Loose u s) f loose))
          (sym (at_after (close s p) (object j.to)) ∙ subst (λ (k : Handle). (effect u (by (close s p))).at (object k.to) ≡ u.at (object k.to)) f stays ∙ at_there ρ σ v l t (object j.to))
