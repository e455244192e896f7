-- The rules do not look at which numbers objects have: calls on renumbered tables, with their objects renumbered alike, are refused alike,
-- answered alike, and lead to the renumbered tables. States RULES T43. Assumes nothing.
use Rattle.std.specs.Prelude.{◌≡◌, Bool, ◌||◌, ◌&&◌, length, T, eqb}
use Rattle.std.proofs.Math.Path.{refl, ap, ap₂, fun_ext}
use Rattle.std.proofs.Common.{sym, ◌∙◌, subst, eqb→eq}
use Rattle.std.proofs.Math.Bool.{true, false, not, cond}
use Rattle.std.proofs.Math.Option.{Option, none, some}
use mathlib.Core.List.{List, [], ◌∷◌, ◌++◌, map}
use Prim.Native.Nat.{ℕ, zero, suc, ◌+◌}
use Rattle.std.proofs.Math.Dec.{eqb_refl, ltb}
use Rattle.model.specs.Lists.{each, keep, any}
use Rattle.model.specs.Label.{Label, leq, join, bot}
use Rattle.model.specs.Flow.{Thing, subject, object, same, Edge, has, targets, others, grow, spread, reached, joins, need}
use Rattle.model.specs.Tables.{Kind, running, file, pipe, Dir, reading, writing, Entry, entry, Handle, Tables, with_at, with_hand, with_numbers, with_kin, subjects, objects, places, is_some, used, label_of, is_file, cell, whole, mates, share, shares_of, named, live_objects, live_subjects, things, one, handles_of, handles, open_on, arc, speaks, flows_of, edges, demand, needs, safe}
use Rattle.model.specs.Label.{level}
use Rattle.model.specs.Tables.{in_range, live, a_file, is_pipe, counted, clean}
use Rattle.model.specs.Calls.{Call, admit, register, create, make_pipe, opens, maps, access, connect, fork, thread, exec, close, mark, exit, retire, freeze, unknown, target, has_mapped, rereads, marking, ends_at_exec, lasting, sheds, steps, effect, Test, known, alive, present, no_pipe, leveled, freezable, new, vacant, taken, apart, unlike, others as differ, facing, enough, suits, idle, thawed, roomy, number, turned, frozen, shut, broken, tests, order, breaks, first, refusal, Shown, level_at, given, shown, Answer, refused, smaller, lowers, last_label, fewer, outcome, said, answer}
use Rattle.model.specs.Steps.{Origin, outside, blank, copied, reads, writes, runs, Step, enter, leave, hold, holds, mix, quits, binds, parted, freezes, put, without, fall, apply, applies, ended, reap}

-- ── tests that come to the same ──
pub alike : (a b : Bool) → (T a → T b) → (T b → T a) → a ≡ b
alike true true f g = refl
alike true false f g = absurd (f tt)
alike false true f g = absurd (g tt)
alike false false f g = refl

-- ── lists ──
module _ {A B : Type 0} (g : A → B) where
  pub map_append : (l m : List A) → map g l ++ map g m ≡ map g (l ++ m)
  map_append [] m = refl
  map_append (x ∷ l) m = ap (λ (z : List B). g x ∷ z) (map_append l m)

  pub map_length : (l : List A) → length (map g l) ≡ length l
  map_length [] = refl
  map_length (x ∷ l) = ap suc (map_length l)

  pub map_keep : (b : Bool) (x : A) (l : List A) → keep b (g x) (map g l) ≡ map g (keep b x l)
  map_keep true x l = refl
  map_keep false x l = refl

  pub any_map : (f : B → Bool) (h : A → Bool) → ((x : A) → f (g x) ≡ h x) → (l : List A) → any f (map g l) ≡ any h l
  any_map f h e [] = refl
  any_map f h e (x ∷ l) = ap₂ ◌||◌ (e x) (any_map f h e l)

  pub map_each : (n : ℕ) (f : ℕ → List A) (h : ℕ → List B) → ((i : ℕ) → h i ≡ map g (f i)) → each n h ≡ map g (each n f)
  map_each zero f h e = refl
  map_each (suc n) f h e = ap₂ ◌++◌ (map_each n f h e) (e n) ∙ map_append (each n f) (f n)

-- ── numbers and what they are changed to, one to one ──
pub record Renumbers (ρ σ : ℕ → ℕ) : Type 0 where
  pub back : (n : ℕ) → σ (ρ n) ≡ n
  pub forth : (n : ℕ) → ρ (σ n) ≡ n

-- (l: the list of numbers that the renumbered tables have)
module _ (ρ σ : ℕ → ℕ) (v : Renumbers ρ σ) (l : List ℕ) where
  eqb_ren : (a b : ℕ) → eqb (ρ a) b ≡ eqb a (σ b)
  eqb_ren a b = alike (eqb (ρ a) b) (eqb a (σ b))
      (λ h. subst (λ (n : ℕ). T (eqb a n)) (sym (v.back a) ∙ ap σ (eqb→eq (ρ a) b h)) (eqb_refl a))
      (λ h. subst (λ (n : ℕ). T (eqb (ρ a) n)) (ap ρ (eqb→eq a (σ b) h) ∙ v.forth b) (eqb_refl (ρ a)))

  eqb_both : (a b : ℕ) → eqb (ρ a) (ρ b) ≡ eqb a b
  eqb_both a b = eqb_ren a (ρ b) ∙ ap (eqb a) (v.back b)

  abbrev pub thing : Thing → Thing
  thing (subject n) = subject n
  thing (object n) = object (ρ n)

  abbrev pub un : Thing → Thing
  un (subject n) = subject n
  un (object n) = object (σ n)

  pub un_thing : (x : Thing) → un (thing x) ≡ x
  un_thing (subject n) = refl
  un_thing (object n) = ap object (v.back n)

  same_un : (x y : Thing) → same (thing x) y ≡ same x (un y)
  same_un (subject a) (subject b) = refl
  same_un (subject a) (object b) = refl
  same_un (object a) (subject b) = refl
  same_un (object a) (object b) = eqb_ren a b

  same_both : (x y : Thing) → same (thing x) (thing y) ≡ same x y
  same_both x y = same_un x (thing y) ∙ ap (same x) (un_thing y)

  -- ── flows and needs ──
  abbrev pub edge : Edge → Edge
  edge e = record { src = thing e.src; dst = thing e.dst }

  has_ren : (l : List Thing) (x : Thing) → has (map thing l) (thing x) ≡ has l x
  has_ren l x = any_map thing (λ y. same y (thing x)) (λ y. same y x) (λ y. same_both y x) l

  targets_ren : (S : List Thing) (es : List Edge) → targets (map thing S) (map edge es) ≡ map thing (targets S es)
  targets_ren S [] = refl
  targets_ren S (e ∷ es) = ap₂ (λ (b : Bool) (l : List Thing). keep b (thing e.dst) l) (has_ren S e.src) (targets_ren S es)
      ∙ map_keep thing (has S e.src) e.dst (targets S es)

  others_ren : (S : List Thing) (es : List Edge) → others (map thing S) (map edge es) ≡ map edge (others S es)
  others_ren S [] = refl
  others_ren S (e ∷ es) = ap₂ (λ (b : Bool) (l : List Edge). keep (not b) (edge e) l) (has_ren S e.src) (others_ren S es)
      ∙ map_keep edge (not (has S e.src)) e (others S es)

  spread_ren : (n : ℕ) (es : List Edge) (S : List Thing) → spread n (map edge es) (map thing S) ≡ map thing (spread n es S)
  spread_ren zero es S = refl
  spread_ren (suc n) es S = ap₂ (λ (H : List Thing) (O : List Edge). grow H (spread n O) (map thing S)) (targets_ren S es) (others_ren S es)
      ∙ go (targets S es) (λ H. spread_ren n (others S es) H)
    where
      go : (H : List Thing) → ((L : List Thing) → spread n (map edge (others S es)) (map thing L) ≡ map thing (spread n (others S es) L))
          → grow (map thing H) (spread n (map edge (others S es))) (map thing S) ≡ map thing (grow H (spread n (others S es)) S)
      go [] ih = refl
      go (h ∷ H) ih = ap (spread n (map edge (others S es))) (map_append thing (h ∷ H) S) ∙ ih ((h ∷ H) ++ S)

  reached_ren : (es : List Edge) (x : Thing) → reached (map edge es) (thing x) ≡ map thing (reached es x)
  reached_ren es x = ap (λ (n : ℕ). spread n (map edge es) (thing x ∷ [])) (map_length edge es) ∙ spread_ren (length es) es (x ∷ [])

  joins_ren : (f h : Thing → Label) → ((x : Thing) → f (thing x) ≡ h x) → (l : List Thing) → joins f (map thing l) ≡ joins h l
  joins_ren f h e [] = refl
  joins_ren f h e (x ∷ l) = ap₂ join (e x) (joins_ren f h e l)

  need_ren : (f h : Thing → Label) → ((x : Thing) → f (thing x) ≡ h x) → (es : List Edge) (x : Thing) → need f (map edge es) (thing x) ≡ need h es x
  unfolding need
  need_ren f h e es x = ap (joins f) (reached_ren es x) ∙ joins_ren f h e (reached es x)

  -- ── tables ──
  abbrev pub joined : Handle → Handle
  joined k = record { dir = k.dir; to = ρ k.to; marked = k.marked; mapped = k.mapped }

  abbrev pub held : Option Handle → Option Handle
  held none = none
  held (some k) = some (joined k)

  abbrev pub ren : Tables → Tables
  ren t = record { at = λ y. t.at (un y); hand = λ s p. held (t.hand s p); freeze = t.freeze; numbers = l; kin = t.kin }

  pub at_there : (t : Tables) (x : Thing) → (ren t).at (thing x) ≡ t.at x
  at_there t x = ap t.at (un_thing x)

  handles_ren : (t : Tables) → handles (ren t) ≡ map joined (handles t)
  unfolding handles
  handles_ren t = map_each joined subjects (handles_of t) (handles_of (ren t))
      (λ s. map_each joined places (λ p. one (t.hand s p)) (λ p. one (held (t.hand s p))) (λ p. go (t.hand s p)))
    where
      go : (o : Option Handle) → one (held o) ≡ map joined (one o)
      go none = refl
      go (some k) = refl

  open_ren : (hs : List Handle) (o : ℕ) → open_on (map joined hs) (ρ o) ≡ open_on hs o
  open_ren hs o = any_map joined (λ k. eqb k.to (ρ o)) (λ k. eqb k.to o) (λ k. eqb_both k.to o) hs

  edges_ren : (t : Tables) → edges (ren t) ≡ map edge (edges t)
  unfolding edges speaks cell
  edges_ren t = ap₂ ◌++◌
      (map_each edge subjects (λ s. each places (λ p. flows_of (speaks t s) (t.hand s p))) (λ s. each places (λ p. flows_of (speaks (ren t) s) (held (t.hand s p))))
      (λ s. map_each edge places (λ p. flows_of (some (subject s)) (t.hand s p)) (λ p. flows_of (some (subject s)) (held (t.hand s p))) (λ p. go s (t.hand s p))))
      (map_each edge subjects (shares_of t) (shares_of (ren t)) (λ a. map_each edge subjects (λ b. keep (mates t a (subject b)) (share a b) [])
      (λ b. keep (mates t a (subject b)) (share a b) []) (λ b. map_keep edge (mates t a (subject b)) (share a b) [])))
      ∙ map_append edge (each subjects (λ s. each places (λ p. flows_of (speaks t s) (t.hand s p)))) (each subjects (shares_of t))
    where
      arcs : (s : ℕ) (k : Handle) (d : Dir) → arc d (subject s) (object (ρ k.to)) ≡ edge (arc d (subject s) (object k.to))
      arcs s k reading = refl
      arcs s k writing = refl

      go : (s : ℕ) (o : Option Handle) → flows_of (some (subject s)) (held o) ≡ map edge (flows_of (some (subject s)) o)
      go s none = refl
      go s (some k) = ap (λ (e : Edge). e ∷ []) (arcs s k k.dir)

  demand_ren : (x : Thing) (e : Option Entry) → demand (thing x) e ≡ demand x e
  demand_ren x none = refl
  demand_ren (subject n) (some e) = refl
  demand_ren (object n) (some e) = go e.kind
    where
      go : (k : Kind) → cond (is_file (object (ρ n)) k) e.label bot ≡ cond (is_file (object n) k) e.label bot
      go running = refl
      go file = refl
      go pipe = refl

  pub demands_ren : (t : Tables) (x : Thing) → demand (thing x) ((ren t).at (thing x)) ≡ demand x (t.at x)
  demands_ren t x = ap (demand (thing x)) (at_there t x) ∙ demand_ren x (t.at x)

  pub needs_ren : (t : Tables) (x : Thing) → needs (ren t) (thing x) ≡ needs t x
  needs_ren t x = ap (λ (es : List Edge). need (λ y. demand y ((ren t).at y)) es (thing x)) (edges_ren t)
      ∙ need_ren (λ y. demand y ((ren t).at y)) (λ y. demand y (t.at y)) (demands_ren t) (edges t) x

  things_ren : (t : Tables) → things (ren t) ≡ map thing (things t)
  unfolding things used cell
  things_ren t = ap₂ ◌++◌ live_s live_o ∙ map_append thing (live_subjects t) (live_objects t)
    where
      live_s : live_subjects (ren t) ≡ map thing (live_subjects t)
      live_s = map_each thing subjects (λ s. keep (is_some (t.at (subject s))) (subject s) []) (λ s. keep (is_some (t.at (subject s))) (subject s) [])
          (λ s. map_keep thing (is_some (t.at (subject s))) (subject s) [])

      go : (o : Option Handle) → named (ren t) (held o) ≡ map thing (named t o)
      go none = refl
      go (some k) = ap (λ (a : Option Entry). keep (is_some a) (object (ρ k.to)) []) (at_there t (object k.to))
          ∙ map_keep thing (is_some (t.at (object k.to))) (object k.to) []

      live_o : live_objects (ren t) ≡ map thing (live_objects t)
      live_o = map_each thing subjects (λ s. each places (λ p. named t (t.hand s p))) (λ s. each places (λ p. named (ren t) (held (t.hand s p))))
          (λ s. map_each thing places (λ p. named t (t.hand s p)) (λ p. named (ren t) (held (t.hand s p))) (λ p. go (t.hand s p)))

  pub safe_ren : (t : Tables) → safe (ren t) ≡ safe t
  unfolding safe
  safe_ren t = ap (λ (l : List Thing). not (any (λ x. not (leq (needs (ren t) x) (label_of ((ren t).at x)))) l)) (things_ren t)
      ∙ ap not (any_map thing (λ x. not (leq (needs (ren t) x) (label_of ((ren t).at x)))) (λ x. not (leq (needs t x) (label_of (t.at x))))
      (λ x. ap₂ (λ (a : Label) (e : Option Entry). not (leq a (label_of e))) (needs_ren t x) (at_there t x)) (things t))

  pub live_ren : (t : Tables) (x : Thing) → live (ren t) (thing x) ≡ live t x
  unfolding used
  live_ren t (subject n) = refl
  live_ren t (object n) = ap is_some (at_there t (object n))

  -- ── steps ──
  abbrev pub origin : Origin → Origin
  origin outside = outside
  origin blank = blank
  origin (copied x) = copied (thing x)

  abbrev pub step : Step → Step
  step (enter x e g) = enter (thing x) e (origin g)
  step (leave x) = leave (thing x)
  step (hold s p o) = hold s p (held o)
  step (holds s r) = holds s (λ p. held (r p))
  step (mix m a b y x) = mix m (thing a) (thing b) (thing y) (thing x)
  step (quits g) = quits (λ y. g (un y))
  step (binds c s) = binds c s
  step (freezes n) = freezes n

  put_ren : (t : Tables) (x : Thing) (o : Option Entry) → ◌≡◌ {A = Thing → Option Entry} (λ y. put (ren t).at (thing x) o y) (λ y. put t.at x o (un y))
  put_ren t x o = fun_ext (λ y. ap (λ (b : Bool). cond b o (t.at (un y))) (same_un x y))

  cond_held : (b : Bool) (x y : Option Handle) → cond b (held x) (held y) ≡ held (cond b x y)
  cond_held true x y = refl
  cond_held false x y = refl

  fall_ren : (x : Thing) (a b : Option Entry) → fall (thing x) a b ≡ fall x a b
  fall_ren x none b = refl
  fall_ren x (some e) none = refl
  fall_ren (subject n) (some e) (some d) = refl
  fall_ren (object n) (some e) (some d) = go e.kind
    where
      go : (k : Kind) → fall (object (ρ n)) (some (entry k e.label)) (some d) ≡ fall (object n) (some (entry k e.label)) (some d)
      go running = refl
      go file = refl
      go pipe = refl

  fall_un : (z : Thing) (a b : Option Entry) → fall z a b ≡ fall (un z) a b
  fall_un (subject n) a b = refl
  fall_un (object n) none b = refl
  fall_un (object n) (some e) none = refl
  fall_un (object n) (some e) (some d) = go e.kind
    where
      go : (k : Kind) → fall (object n) (some (entry k e.label)) (some d) ≡ fall (object (σ n)) (some (entry k e.label)) (some d)
      go running = refl
      go file = refl
      go pipe = refl

  pub whole_ren : (t : Tables) (x y : Thing) → whole (ren t) (thing x) y ≡ whole t x (un y)
  unfolding whole
  whole_ren t (subject a) (subject b) = refl
  whole_ren t (subject a) (object b) = refl
  whole_ren t (object a) y = same_un (object a) y

  apply_ren : (k : Step) (t : Tables) → apply (step k) (ren t) ≡ ren (apply k t)
  apply_ren (enter x e g) t = ap (with_at (ren t)) (put_ren t x (some e))
  apply_ren (leave x) t = ap (with_at (ren t)) (put_ren t x none)
  apply_ren (hold s p o) t = ap (with_hand (ren t)) (fun_ext (λ s'. fun_ext (λ p'.
      ap (λ (z : Option Handle). cond (eqb s s') z (held (t.hand s' p'))) (cond_held (eqb p p') o (t.hand s p')) ∙ cond_held (eqb s s') (cond (eqb p p') o (t.hand s p')) (t.hand s' p'))))
  apply_ren (holds s r) t = ap (with_hand (ren t)) (fun_ext (λ s'. fun_ext (λ p'. cond_held (eqb s s') (r p') (t.hand s' p'))))
  apply_ren (mix m a b y x) t = ap (with_at (ren t)) (fun_ext (λ z.
      ap₂ (λ (b : Bool) (o : Option Entry). cond b o (t.at (un z))) (whole_ren t y z)
      (ap (fall z (t.at (un z))) (at_there t x) ∙ fall_un z (t.at (un z)) (t.at x))))
  apply_ren (quits g) t = ap (λ (h : ℕ → ℕ → Option Handle). with_kin (without (λ y. g (un y)) (with_hand (ren t) h)) (parted g t.kin))
      (fun_ext (λ s. fun_ext (λ p. cond_held (g (subject s)) none (t.hand s p))))
  apply_ren (binds c s) t = refl
  apply_ren (freezes n) t = refl

  pub applies_ren : (ks : List Step) (t : Tables) → applies (map step ks) (ren t) ≡ ren (applies ks t)
  applies_ren [] t = refl
  applies_ren (k ∷ ks) t = ap (applies (map step ks)) (apply_ren k t) ∙ applies_ren ks (apply k t)

  -- ── the end of pipes ──
  ended_ren : (before after : List Handle) (y : Thing) (o : Option Entry) → ended (map joined before) (map joined after) y o ≡ ended before after (un y) o
  unfolding ended
  ended_ren before after (subject n) o = refl
  ended_ren before after (object n) none = refl
  ended_ren before after (object n) (some e) = go e.kind
    where
      opens : (hs : List Handle) → open_on (map joined hs) n ≡ open_on hs (σ n)
      opens hs = ap (open_on (map joined hs)) (sym (v.forth n)) ∙ open_ren hs (σ n)

      go : (k : Kind) → ended (map joined before) (map joined after) (object n) (some (entry k e.label)) ≡ ended before after (object (σ n)) (some (entry k e.label))
      go running = refl
      go file = refl
      go pipe = ap₂ (λ (a b : Bool). a && not b) (opens before) (opens after)

  pub reap_ren : (t u : Tables) → reap (handles (ren t)) (ren u) ≡ ren (reap (handles t) u)
  reap_ren t u = ap (with_at (ren u)) (fun_ext (λ y.
      ap₂ (λ (a b : List Handle). cond (ended a b y (u.at (un y))) none (u.at (un y))) (handles_ren t) (handles_ren u)
      ∙ ap (λ (b : Bool). cond b none (u.at (un y))) (ended_ren (handles t) (handles u) y (u.at (un y)))))

  -- ── calls ──
  abbrev pub call : Call → Call
  call (admit s n) = admit s n
  call (register o n) = register (ρ o) n
  call (create s o) = create s (ρ o)
  call (make_pipe s o r w) = make_pipe s (ρ o) r w
  call (opens d s o p) = opens d s (ρ o) p
  call (maps s o p) = maps s (ρ o) p
  call (access d s p) = access d s p
  call (connect s u a b p q) = connect s u (ρ a) (ρ b) p q
  call (thread s c) = thread s c
  call (fork s c) = fork s c
  call (exec s o) = exec s (ρ o)
  call (close s p) = close s p
  call (mark s p) = mark s p
  call (exit s) = exit s
  call (retire o) = retire (ρ o)
  call (freeze n) = freeze n
  call unknown = unknown

  target_ren : (o : Option Handle) → target (held o) ≡ thing (target o)
  target_ren none = refl
  target_ren (some k) = refl

  pub a_file_ren : (x : Thing) (o : Option Entry) → a_file (thing x) o ≡ a_file x o
  a_file_ren x none = refl
  a_file_ren (subject n) (some e) = refl
  a_file_ren (object n) (some e) = go e.kind
    where
      go : (k : Kind) → is_file (object (ρ n)) k ≡ is_file (object n) k
      go running = refl
      go file = refl
      go pipe = refl

  row_ren : (t : Tables) (s : ℕ) → handles_of (ren t) s ≡ map joined (handles_of t s)
  row_ren t s = map_each joined places (λ p. one (t.hand s p)) (λ p. one (held (t.hand s p))) (λ p. go (t.hand s p))
    where
      go : (o : Option Handle) → one (held o) ≡ map joined (one o)
      go none = refl
      go (some k) = refl

  mapped_ren : (t : Tables) (x : Thing) (s : ℕ) → has_mapped (ren t) (thing x) s ≡ has_mapped t x s
  mapped_ren t x s = ap (any (λ k. k.mapped && same (object k.to) (thing x))) (row_ren t s)
      ∙ any_map joined (λ k. k.mapped && same (object k.to) (thing x)) (λ k. k.mapped && same (object k.to) x)
      (λ k. ap (λ (b : Bool). k.mapped && b) (same_both (object k.to) x)) (handles_of t s)

  rereads_ren : (t : Tables) (x : Thing) → rereads (ren t) (thing x) ≡ map step (rereads t x)
  unfolding rereads cell
  rereads_ren t x = ap₂ (λ (b : Bool) (l : List Step). elim b as (λ _. List Step) [ true ↦ l | false ↦ [] ])
      (ap (a_file (thing x)) (at_there t x) ∙ a_file_ren x (t.at x))
      (map_each step subjects (λ s. keep (has_mapped t x s) (mix reads (subject s) x (subject s) x) [])
      (λ s. keep (has_mapped (ren t) (thing x) s) (mix reads (subject s) (thing x) (subject s) (thing x)) [])
      (λ s. ap (λ (b : Bool). keep b (mix reads (subject s) (thing x) (subject s) (thing x)) []) (mapped_ren t x s)
      ∙ map_keep step (has_mapped t x s) (mix reads (subject s) x (subject s) x) []))
      ∙ go (a_file x (t.at x)) (each subjects (λ s. keep (has_mapped t x s) (mix reads (subject s) x (subject s) x) []))
    where
      go : (b : Bool) (l : List Step) → (elim b as (λ _. List Step) [ true ↦ map step l | false ↦ [] ]) ≡ map step (elim b as (λ _. List Step) [ true ↦ l | false ↦ [] ])
      go true l = refl
      go false l = refl

  lasting_ren : (o : Option Handle) → lasting (held o) ≡ held (lasting o)
  lasting_ren none = refl
  lasting_ren (some k) = cond_held (ends_at_exec k) none (some k)

  mates_ren : (t : Tables) (s : ℕ) (y : Thing) → mates (ren t) s y ≡ mates t s (un y)
  mates_ren t s (subject m) = refl
  mates_ren t s (object o) = refl

  sheds_ren : (t : Tables) (s : ℕ) → sheds (ren t) s ≡ map step (sheds t s)
  unfolding sheds
  sheds_ren t s = ap₂ (λ (g : Thing → Bool) (r : ℕ → Option Handle). quits g ∷ holds s r ∷ []) (fun_ext (mates_ren t s)) (fun_ext (λ p. lasting_ren (t.hand s p)))

  pub steps_ren : (t : Tables) (c : Call) → steps (ren t) (call c) ≡ map step (steps t c)
  unfolding cell
  steps_ren t (admit s n) = refl
  steps_ren t (register o n) = refl
  steps_ren t (create s o) = refl
  steps_ren t (make_pipe s o r w) = refl
  steps_ren t (opens d s o p) = refl
  steps_ren t (maps s o p) = refl
  steps_ren t (access reading s p) = ap (λ (x : Thing). mix reads (subject s) x (subject s) x ∷ []) (target_ren (t.hand s p))
  steps_ren t (access writing s p) = ap (λ (x : Thing). mix writes x (subject s) x (subject s) ∷ rereads (ren t) x) (target_ren (t.hand s p))
      ∙ ap (λ (l : List Step). mix writes (thing (target (t.hand s p))) (subject s) (thing (target (t.hand s p))) (subject s) ∷ l) (rereads_ren t (target (t.hand s p)))
  steps_ren t (connect s u a b p q) = refl
  steps_ren t (fork s c) = refl
  steps_ren t (thread s c) = refl
  steps_ren t (exec s o) = ap (λ (l : List Step). l ++ (mix runs (subject s) (object (ρ o)) (subject s) (object (ρ o)) ∷ [])) (sheds_ren t s)
      ∙ map_append step (sheds t s) (mix runs (subject s) (object o) (subject s) (object o) ∷ [])
  steps_ren t (close s p) = refl
  steps_ren t (mark s p) = ap (λ (o : Option Handle). hold s p o ∷ []) (go (t.hand s p))
    where
      go : (o : Option Handle) → marking (held o) ≡ held (marking o)
      go none = refl
      go (some k) = refl
  steps_ren t (exit s) = ap (λ (g : Thing → Bool). quits g ∷ []) (fun_ext (λ y. same_un (subject s) y))
  steps_ren t (retire o) = refl
  steps_ren t (freeze n) = refl
  steps_ren t unknown = refl

  pub stepped_ren : (t : Tables) (c : Call) → reap (handles (ren t)) (applies (steps (ren t) (call c)) (ren t)) ≡ ren (reap (handles t) (applies (steps t c) t))
  stepped_ren t c = ap (λ (l : List Step). reap (handles (ren t)) (applies l (ren t))) (steps_ren t c)
      ∙ ap (reap (handles (ren t))) (applies_ren (steps t c) t) ∙ reap_ren t (applies (steps t c) t)

  -- but for the list of numbers
  pub effect_ren : (t : Tables) (c : Call) → effect (ren t) (call c) ≡ with_numbers (ren (effect t c)) (effect (ren t) (call c)).numbers
  unfolding effect
  effect_ren t c = ap (λ (u : Tables). with_numbers u (effect (ren t) (call c)).numbers) (stepped_ren t c)

  -- ── refusals ──
  abbrev pub test : Test → Test
  test known = known
  test (alive s) = alive s
  test (present o) = present (ρ o)
  test (no_pipe o) = no_pipe (ρ o)
  test (leveled n) = leveled n
  test (freezable n) = freezable n
  test (new x) = new (thing x)
  test (vacant s p) = vacant s p
  test (taken s p) = taken s p
  test (apart r w) = apart r w
  test (unlike a b) = unlike (ρ a) (ρ b)
  test (differ s u) = differ s u
  test (facing d s p) = facing d s p
  test (enough c) = enough (call c)
  test (suits s o) = suits s (ρ o)
  test (idle o) = idle (ρ o)
  test (thawed d o) = thawed d (ρ o)
  test (roomy k) = roomy k

  tests_ren : (c : Call) → tests (call c) ≡ map test (tests c)
  tests_ren (admit s n) = refl
  tests_ren (register o n) = refl
  tests_ren (create s o) = refl
  tests_ren (make_pipe s o r w) = refl
  tests_ren (opens d s o p) = refl
  tests_ren (maps s o p) = refl
  tests_ren (access d s p) = refl
  tests_ren (connect s u a b p q) = refl
  tests_ren (fork s c) = refl
  tests_ren (thread s c) = refl
  tests_ren (exec s o) = refl
  tests_ren (close s p) = refl
  tests_ren (mark s p) = refl
  tests_ren (exit s) = refl
  tests_ren (retire o) = refl
  tests_ren (freeze n) = refl
  tests_ren unknown = refl

  number_ren : (d : Test) → number (test d) ≡ number d
  number_ren known = refl
  number_ren (alive s) = refl
  number_ren (present o) = refl
  number_ren (no_pipe o) = refl
  number_ren (leveled n) = refl
  number_ren (freezable n) = refl
  number_ren (new x) = refl
  number_ren (vacant s p) = refl
  number_ren (taken s p) = refl
  number_ren (apart r w) = refl
  number_ren (unlike a b) = refl
  number_ren (differ s u) = refl
  number_ren (facing d s p) = refl
  number_ren (enough c) = refl
  number_ren (suits s o) = refl
  number_ren (idle o) = refl
  number_ren (thawed d o) = refl
  number_ren (roomy k) = refl

  used_ren : (t : Tables) (x : Thing) → used (ren t) (thing x) ≡ used t x
  unfolding used
  used_ren t x = ap is_some (at_there t x)

  is_some_ren : (o : Option Handle) → is_some (held o) ≡ is_some o
  is_some_ren none = refl
  is_some_ren (some k) = refl

  pipe_ren : (n : ℕ) (o : Option Entry) → is_pipe (object (ρ n)) o ≡ is_pipe (object n) o
  pipe_ren n none = refl
  pipe_ren n (some e) = refl

  turned_ren : (d : Dir) (o : Option Handle) → turned d (held o) ≡ turned d o
  turned_ren d none = refl
  turned_ren d (some k) = refl

  shut_ren : (f : ℕ) (d : Dir) (n : ℕ) (o : Option Entry) → shut f d (object (ρ n)) o ≡ shut f d (object n) o
  shut_ren f reading n o = refl
  shut_ren f writing n none = refl
  shut_ren f writing n (some e) = go e.kind
    where
      go : (k : Kind) → frozen f (object (ρ n)) (some (entry k e.label)) ≡ frozen f (object n) (some (entry k e.label))
      go running = refl
      go file = refl
      go pipe = refl

  broken_ren : (t : Tables) → length l ≡ length t.numbers → (d : Test) → broken (ren t) (test d) ≡ broken t d
  unfolding cell
  broken_ren t g known = refl
  broken_ren t g (alive s) = ap (λ (b : Bool). not (in_range (subject s) && b)) (used_ren t (subject s))
  broken_ren t g (present o) = ap not (used_ren t (object o))
  broken_ren t g (no_pipe o) = ap (is_pipe (object (ρ o))) (at_there t (object o)) ∙ pipe_ren o (t.at (object o))
  broken_ren t g (leveled n) = refl
  broken_ren t g (freezable n) = refl
  broken_ren t g (new (subject s)) = ap (λ (b : Bool). not (in_range (subject s)) || b) (used_ren t (subject s))
  broken_ren t g (new (object o)) = used_ren t (object o)
  broken_ren t g (vacant s p) = ap (λ (b : Bool). not (ltb p places) || b) (is_some_ren (t.hand s p))
  broken_ren t g (taken s p) = ap (λ (b : Bool). not (ltb p places) || not b) (is_some_ren (t.hand s p))
  broken_ren t g (apart r w) = refl
  broken_ren t g (unlike a b) = eqb_both a b
  broken_ren t g (differ s u) = refl
  broken_ren t g (facing d s p) = turned_ren d (t.hand s p)
  broken_ren t g (enough c) = ap (λ (l : List Step). not (safe (applies l (ren t)))) (steps_ren t c)
      ∙ ap (λ (u : Tables). not (safe u)) (applies_ren (steps t c) t) ∙ ap not (safe_ren (applies (steps t c) t))
  broken_ren t g (suits s o) = ap₂ (λ (a : Label) (e : Option Entry). not (leq a (label_of e)))
      (ap (λ (l : List Step). needs (applies l (ren t)) (subject s)) (sheds_ren t s) ∙ ap (λ (u : Tables). needs u (subject s)) (applies_ren (sheds t s) t)
      ∙ needs_ren (applies (sheds t s) t) (subject s)) (at_there t (object o))
  broken_ren t g (idle o) = ap (λ (hs : List Handle). open_on hs (ρ o)) (handles_ren t) ∙ open_ren (handles t) o
  broken_ren t g (thawed d o) = ap (shut t.freeze d (object (ρ o))) (at_there t (object o)) ∙ shut_ren t.freeze d o (t.at (object o))
  broken_ren t g (roomy k) = ap (λ (n : ℕ). ltb objects (n + k)) g

  breaks_ren : (t : Tables) → length l ≡ length t.numbers → (n : ℕ) (ds : List Test) → breaks (ren t) n (map test ds) ≡ breaks t n ds
  breaks_ren t g n [] = refl
  breaks_ren t g n (d ∷ ds) = ap₂ ◌||◌ (ap₂ (λ (m : ℕ) (b : Bool). elim (eqb m n) as (λ _. Bool) [ true ↦ b | false ↦ false ]) (number_ren d) (broken_ren t g d)) (breaks_ren t g n ds)

  first_ren : (t : Tables) → length l ≡ length t.numbers → (ds : List Test) (ns : List ℕ) → first (ren t) (map test ds) ns ≡ first t ds ns
  first_ren t g ds [] = refl
  first_ren t g ds (n ∷ ns) = ap₂ (λ (b : Bool) (o : Option ℕ). elim b as (λ _. Option ℕ) [ true ↦ some n | false ↦ o ]) (breaks_ren t g n ds) (first_ren t g ds ns)

  pub refusal_ren : (t : Tables) → length l ≡ length t.numbers → (c : Call) → refusal (ren t) (call c) ≡ refusal t c
  unfolding refusal
  refusal_ren t g c = ap (λ (ds : List Test). first (ren t) ds order) (tests_ren c) ∙ first_ren t g (tests c) order

  -- ── answers ──
  lowers_ren : (t u : Tables) → lowers (ren t) (ren u) ≡ lowers t u
  unfolding lowers
  lowers_ren t u = ap (any (λ x. smaller ((ren t).at x) ((ren u).at x))) (things_ren t)
      ∙ any_map thing (λ x. smaller ((ren t).at x) ((ren u).at x)) (λ x. smaller (t.at x) (u.at x)) (λ x. ap₂ smaller (at_there t x) (at_there u x)) (things t)

  abbrev pub show : Shown → Shown
  show (level_at x) = level_at (thing x)
  show (given n) = given n

  shown_ren : (t : Tables) (c : Call) → shown (ren t) (call c) ≡ show (shown t c)
  unfolding cell
  shown_ren t (admit s n) = refl
  shown_ren t (register o n) = refl
  shown_ren t (create s o) = refl
  shown_ren t (make_pipe s o r w) = refl
  shown_ren t (opens d s o p) = refl
  shown_ren t (maps s o p) = refl
  shown_ren t (access reading s p) = refl
  shown_ren t (access writing s p) = ap level_at (target_ren (t.hand s p))
  shown_ren t (connect s u a b p q) = refl
  shown_ren t (fork s c) = refl
  shown_ren t (thread s c) = refl
  shown_ren t (exec s o) = refl
  shown_ren t (close s p) = refl
  shown_ren t (mark s p) = refl
  shown_ren t (exit s) = refl
  shown_ren t (retire o) = refl
  shown_ren t (freeze n) = refl
  shown_ren t unknown = refl

  said_ren : (t u : Tables) (x : Shown) → said (ren t) (ren u) (show x) ≡ said t u x
  said_ren t u (level_at x) = ap₂ (λ (b : Bool) (v : Option Entry × Option Entry). outcome b (level (last_label v.0 v.1)) (fewer v.0 v.1)) (lowers_ren t u)
      (ap₂ (λ (a b : Option Entry). (a, b)) (at_there t x) (at_there u x))
  said_ren t u (given n) = refl

  said_numbers : (t u : Tables) (n : List ℕ) (x : Shown) → said t (with_numbers u n) x ≡ said t u x
  unfolding lowers
  said_numbers t u n (level_at x) = refl
  said_numbers t u n (given k) = refl

  pub answer_ren : (t : Tables) → length l ≡ length t.numbers → (c : Call) → answer (ren t) (call c) ≡ answer t c
  unfolding answer
  answer_ren t g c = ap₂ (λ (o : Option ℕ) (a : Answer). elim o as (λ _. Answer) [ none ↦ a | some n ↦ refused n ]) (refusal_ren t g c)
      (ap₂ (said (ren t)) (effect_ren t c) (shown_ren t c) ∙ said_numbers (ren t) (ren (effect t c)) (effect (ren t) (call c)).numbers (show (shown t c)) ∙ said_ren t (effect t c) (shown t c))

  -- ── tables that no calls made ──
  pub clean_ren : (t : Tables) → clean (ren t) ≡ ren (clean t)
  unfolding clean
  clean_ren t = ap (with_hand (ren t)) (fun_ext (λ s. fun_ext (λ p. go s p (t.hand s p))))
    where
      go : (s p : ℕ) (o : Option Handle) → counted (ltb p places && live (ren t) (subject s)) (λ n. live (ren t) (object n)) (held o)
          ≡ held (counted (ltb p places && live t (subject s)) (λ n. live t (object n)) o)
      go s p none = refl
      go s p (some k) = ap₂ (λ (a b : Bool). cond ((ltb p places && (in_range (subject s) && a)) && b) (some (joined k)) none)
          (used_ren t (subject s)) (used_ren t (object k.to))
          ∙ cond_held ((ltb p places && live t (subject s)) && live t (object k.to)) (some k) none
