-- A read or write that lowers nobody changes nothing (RULES C7, C8, C104, C111): a host that leaves it out gives no other answer. What a host need not tell of
-- handles is in `Demand2.Fewer`. Of all tables to which calls lead from empty ones. Assumes nothing.
use Rattle.std.specs.Prelude.{◌≡◌, refl, Bool, true, false, cond, ◌⊎◌, ℕ, T}
use Rattle.std.proofs.Common.{sym, ◌∙◌, ap, ap₂, subst, subst₂, inl, inr}
use Rattle.std.proofs.Math.Path.{fun_ext}
use Rattle.std.proofs.Math.Option.{Option, none, some, some-injective}
use Rattle.model.specs.Label.{Label, ◌⊑◌, meet}
use Rattle.model.proofs.Label.Laws.{⊑_refl, meet_stays}
use Rattle.model.specs.Flow.{Thing, subject, object}
use Rattle.model.specs.Tables.{Dir, reading, writing, Entry, entry, Handle, Tables, with_at, with_numbers, label_of, a_file, cell, whole, handles}
use Rattle.model.proofs.Tables.Laws.{whole_cases, whole_object}
use Rattle.model.specs.Steps.{Access, reads, writes, mix, falls, fall, apply, applies, reap}
use Rattle.model.proofs.Steps.Laws.{sink_by, file_keeps, reap_more}
use Rattle.model.specs.Invariant.{Kept}
use Rattle.model.specs.Calls.{Call, access, target, steps, stepped, effect, refusal, next, lowers}
use Rattle.model.proofs.Calls.Moving.{Through, lowers_none, rereads_keep}
use Rattle.model.proofs.Calls.Listed.{Listed, listed_same, effect_listed, effect_is, effect_at}

-- a read or write through the handle k of s lowers nobody: what is read is not below s; what is written is a file, or s is not below it
abbrev pub Quiet : Tables → Dir → ℕ → Handle → Type 0
Quiet t reading s k = label_of (t.at (cell t s)) ⊑ label_of (t.at (object k.to))
Quiet t writing s k = T (a_file (object k.to) (t.at (object k.to))) ⊎ (label_of (t.at (object k.to)) ⊑ label_of (t.at (cell t s)))

-- who takes in what is not below it stays as it is
fall_stays : (x : Thing) (a b : Option Entry) → label_of a ⊑ label_of b → fall x a b ≡ a
fall_stays x none b h = refl
fall_stays x (some e) none h = refl
fall_stays x (some e) (some d) h = ap (λ (l : Label). some (entry e.kind l)) (go (falls x e.kind))
  where
    go : (f : Bool) → cond f (meet e.label d.label) e.label ≡ e.label
    go true = meet_stays e.label d.label h
    go false = refl

mix_stays : (t : Tables) (m : Access) (a b y x : Thing) → ((z : Thing) → T (whole t y z) → fall z (t.at z) (t.at x) ≡ t.at z) → apply (mix m a b y x) t ≡ t
mix_stays t m a b y x h = ap (with_at t) (fun_ext (λ z. sink_by (λ w o. o ≡ t.at w) t y (t.at x) z refl (h z)))

-- a call whose steps change nothing changes nothing
unmoved : (t : Tables) (c : Call) → Listed t → applies (steps t c) t ≡ t → effect t c ≡ t
unmoved t c l q = effect_is t c ∙ ap₂ with_numbers rest (listed_same (effect_listed t c l) l (λ x. effect_at t c x ∙ ap (λ (u : Tables). u.at x) rest))
  where
    rest : stepped t c ≡ t
    rest = ap (reap (handles t)) q ∙ reap_more t t (λ n h. h)

module _ (t : Tables) (v : Kept t) (l : Listed t) (s p : ℕ) (k : Handle) (held : t.hand s p ≡ some k) where
  -- s, and who takes in what s does, take in what is not below s
  group_stays : (n : ℕ) (x : Thing) → label_of (t.at (cell t n)) ⊑ label_of (t.at x) → (z : Thing) → T (whole t (cell t n) z) → fall z (t.at z) (t.at x) ≡ t.at z
  group_stays n x h z b = fall_stays z (t.at z) (t.at x) (elim (whole_cases t (cell t n) z b) [
    | inl q ↦ subst (λ (y : Thing). label_of (t.at y) ⊑ label_of (t.at x)) q h
    | inr r ↦ subst (λ (a : Label). a ⊑ label_of (t.at x))
        (subst₂ (λ (y w : Thing). label_of (t.at y) ≡ label_of (t.at w)) r.2 r.3 (v.even.one_level r.0 r.1 r.4)) h
  ])

  pub quiet_same : (d : Dir) → Quiet t d s k → effect t (access d s p) ≡ t
  quiet_same d h = unmoved t (access d s p) l (went d h)
    where
      x : Thing
      x = target (t.hand s p)

      on : x ≡ object k.to
      on = ap target held

      -- a file keeps its label; a pipe takes in what is not below it
      written : Quiet t writing s k → (z : Thing) → T (whole t x z) → fall z (t.at z) (t.at (cell t s)) ≡ t.at z
      written h z b = elim h [
        | inl f ↦ file_keeps z (t.at z) (t.at (cell t s)) (subst (λ (y : Thing). T (a_file y (t.at y))) same f)
        | inr f ↦ fall_stays z (t.at z) (t.at (cell t s)) (subst (λ (y : Thing). label_of (t.at y) ⊑ label_of (t.at (cell t s))) same f)
      ]
        where
          same : object k.to ≡ z
          same = whole_object t k.to z (subst (λ (y : Thing). T (whole t y z)) on b)

      -- who has a file mapped has fallen to its label when it mapped it
      reread : (m : ℕ) → Through t x m → (u : Tables) → u ≡ t → apply (mix reads (subject m) x (cell t m) x) u ≡ t
      reread m r u q = ap (apply (mix reads (subject m) x (cell t m) x)) q ∙ mix_stays t reads (subject m) x (cell t m) x (group_stays m x
          (subst (λ (y : Thing). label_of (t.at (cell t m)) ⊑ label_of (t.at y)) r.on (v.mapped.each m r.place r.handle r.held r.maps).under))

      went : (d : Dir) → Quiet t d s k → applies (steps t (access d s p)) t ≡ t
      went reading h = mix_stays t reads (subject s) x (cell t s) x
          (group_stays s x (subst (λ (y : Thing). label_of (t.at (cell t s)) ⊑ label_of (t.at y)) (sym on) h))
      went writing h = rereads_keep (λ u. u ≡ t) t x reread (apply (mix writes x (subject s) x (cell t s)) t)
          (mix_stays t writes x (subject s) x (cell t s) (written h))

  -- so the next tables are these, and the answer is not lowered
  pub quiet_next : (d : Dir) → Quiet t d s k → next t (access d s p) ≡ t
  quiet_next d h = go (refusal t (access d s p))
    where
      go : (o : Option ℕ) → (elim o as (λ _. Tables) [ none ↦ effect t (access d s p) | some n ↦ t ]) ≡ t
      go none = quiet_same d h
      go (some n) = refl

  pub quiet_allowed : (d : Dir) → Quiet t d s k → lowers t (effect t (access d s p)) ≡ false
  quiet_allowed d h = ap (lowers t) (quiet_same d h) ∙ lowers_none t t (λ x e f a b. subst (λ (z : Entry). e.label ⊑ z.label) (some-injective e f (sym a ∙ b)) ⊑_refl)
