-- Chains of handles do not look at which numbers objects have: one behind a call is, renumbered, one behind the renumbered call, and back. Gives RULES A10 and A11 of
-- tables whose objects are named by number. Assumes nothing.
use Rattle.std.specs.Prelude.{◌≡◌, refl, List, ◌∷◌, ℕ, ◌/◌, ◌%◌, T}
use Rattle.std.proofs.Common.{sym, ◌∙◌, ap, subst}
use Rattle.std.proofs.Math.Option.{Option, none, some, none-ne-some, some-injective}
use Rattle.model.specs.Flow.{Thing, subject, object, Edge}
use Rattle.model.specs.Tables.{Dir, reading, writing, Handle, Tables, with_numbers, is_file, whole, arc, flow}
use Rattle.model.proofs.Tables.Laws.{whole_by}
use Rattle.model.specs.Calls.{Call, admit, register, create, make_pipe, opens, access, fork, thread, exec, close, exit, retire, maps, mark, freeze, connect, unknown, effect}
use Rattle.model.proofs.Calls.Renaming.{Renumbers, thing, un, un_thing, edge, joined, held, ren, at_there, whole_ren, a_file_ren, call, effect_ren}
use Rattle.attack.specs.Attack.{Barred, Begins, Way, end, via, Chain, Fewest}

module _ (ρ σ : ℕ → ℕ) (v : Renumbers ρ σ) (l : List ℕ) where
  abbrev there : Thing → Thing
  there x = thing ρ σ v l x

  -- what has this number now
  abbrev pub was : Thing → Thing
  was x = un ρ σ v l x

  abbrev as_now : Tables → Tables
  as_now t = ren ρ σ v l t

  abbrev by : Call → Call
  by c = call ρ σ v l c

  was_there : (x : Thing) → was (there x) ≡ x
  was_there x = un_thing ρ σ v l x

  pub there_was : (x : Thing) → there (was x) ≡ x
  there_was (subject n) = refl
  there_was (object n) = ap object (v.forth n)

  -- ── what a thing must not reach ──
  barred_there : (t : Tables) (low high : Thing) → Barred t low high → Barred (as_now t) (there low) (there high)
  barred_there t low high b = record {
    low_entry = b.low_entry;
    low_live = at_there ρ σ v l t low ∙ b.low_live;
    high_entry = b.high_entry;
    high_live = at_there ρ σ v l t high ∙ b.high_live;
    high_file = subst T (sym (a_file_ren ρ σ v l high (some b.high_entry))) b.high_file;
    insufficient = b.insufficient;
  }

  barred_back : (t : Tables) (low high : Thing) → Barred (as_now t) low high → Barred t (was low) (was high)
  barred_back t low high b = record {
    low_entry = b.low_entry;
    low_live = b.low_live;
    high_entry = b.high_entry;
    high_live = b.high_live;
    high_file = subst T (ap (λ (x : Thing). is_file x b.high_entry.kind) (sym (there_was high)) ∙ a_file_ren ρ σ v l (was high) (some b.high_entry)) b.high_file;
    insufficient = b.insufficient;
  }

  -- ── where it begins ──
  begins_there : (c : Call) (low x : Thing) → Begins c low x → Begins (by c) (there low) (there x)
  begins_there (admit s n) low x q = ap there q
  begins_there (register o n) low x q = ap there q
  begins_there (create s o) low x q = ap there q
  begins_there (make_pipe s o r w) low x q = ap there q
  begins_there (opens d s o p) low x q = ap there q
  begins_there (access d s p) low x q = ap there q
  begins_there (fork s c) low x q = ap there q
  begins_there (thread s c) low x q = ap there q
  begins_there (exec s o) low x q = (ap there q.0, ap there q.1)
  begins_there (close s p) low x q = ap there q
  begins_there (exit s) low x q = ap there q
  begins_there (retire o) low x q = ap there q
  begins_there (maps s o p) low x q = ap there q
  begins_there (mark s p) low x q = ap there q
  begins_there (freeze n) low x q = ap there q
  begins_there (connect s u a b p k) low x q = ap there q
  begins_there unknown low x q = ap there q

  begins_back : (c : Call) (low x : Thing) → Begins (by c) low x → Begins c (was low) (was x)
  begins_back (admit s n) low x q = ap was q
  begins_back (register o n) low x q = ap was q
  begins_back (create s o) low x q = ap was q
  begins_back (make_pipe s o r w) low x q = ap was q
  begins_back (opens d s o p) low x q = ap was q
  begins_back (access d s p) low x q = ap was q
  begins_back (fork s c) low x q = ap was q
  begins_back (thread s c) low x q = ap was q
  begins_back (exec s o) low x q = (ap was q.0 ∙ was_there (object o), ap was q.1)
  begins_back (close s p) low x q = ap was q
  begins_back (exit s) low x q = ap was q
  begins_back (retire o) low x q = ap was q
  begins_back (maps s o p) low x q = ap was q
  begins_back (mark s p) low x q = ap was q
  begins_back (freeze n) low x q = ap was q
  begins_back (connect s u a b p k) low x q = ap was q
  begins_back unknown low x q = ap was q

  -- ── ways ──
  arc_there : (d : Dir) (s o : ℕ) → arc d (subject s) (object (ρ o)) ≡ edge ρ σ v l (arc d (subject s) (object o))
  arc_there reading s o = refl
  arc_there writing s o = refl

  flow_there : (s : ℕ) (k : Handle) → flow (subject s) (joined ρ σ v l k) ≡ edge ρ σ v l (flow (subject s) k)
  flow_there s k = arc_there k.dir s k.to

  -- the list of numbers is of no matter
  whole_there : (u : Tables) (n : List ℕ) (x z : Thing) → whole (with_numbers (as_now u) n) (there x) z ≡ whole u x (was z)
  whole_there u n x z = whole_by (with_numbers (as_now u) n) (as_now u) refl (there x) z ∙ whole_ren ρ σ v l u x z

  way_there : (u : Tables) (n : List ℕ) {x y : Thing} {m : List ℕ} → Way u x m y → Way (with_numbers (as_now u) n) (there x) m (there y)
  way_there u n (end q) = end (ap there q)
  way_there u n (via i k z h q w r) = via i (joined ρ σ v l k) (there z) (ap (held ρ σ v l) h)
      (ap (λ (e : Edge). e.src) (flow_there (i / 16) k) ∙ ap there q)
      (subst (λ (e : Edge). T (whole (with_numbers (as_now u) n) e.dst (there z))) (sym (flow_there (i / 16) k))
      (subst T (sym (whole_there u n (flow (subject (i / 16)) k).dst (there z) ∙ ap (whole u (flow (subject (i / 16)) k).dst) (was_there z))) w))
      (way_there u n r)

  -- which handle stood there
  held_back : (o : Option Handle) (k : Handle) → held ρ σ v l o ≡ some k → (j : Handle) × (o ≡ some j) × (joined ρ σ v l j ≡ k)
  held_back none k q = absurd (none-ne-some k q)
  held_back (some j) k q = (j, refl, some-injective (joined ρ σ v l j) k q)

  way_back : (u : Tables) (n : List ℕ) {x y : Thing} {m : List ℕ} → Way (with_numbers (as_now u) n) x m y → Way u (was x) m (was y)
  way_back u n (end q) = end (ap was q)
  way_back u n {x} (via i k z h q w r) = more (held_back (u.hand (i / 16) (i % 16)) k h) (way_back u n r)
    where
      more : {y : Thing} {m : List ℕ} → (j : Handle) × (u.hand (i / 16) (i % 16) ≡ some j) × (joined ρ σ v l j ≡ k) → Way u (was z) m y → Way u (was x) (i ∷ m) y
      more (j, g, e) on = via i j (was z) g
          (sym (was_there (flow (subject (i / 16)) j).src) ∙ ap (λ (d : Edge). was d.src) (sym is) ∙ ap was q)
          (subst T (whole_there u n (flow (subject (i / 16)) j).dst z) (subst (λ (d : Edge). T (whole (with_numbers (as_now u) n) d.dst z)) is w)) on
        where
          is : flow (subject (i / 16)) k ≡ edge ρ σ v l (flow (subject (i / 16)) j)
          is = ap (flow (subject (i / 16))) (sym e) ∙ flow_there (i / 16) j

  -- ── chains ──
  pub chain_there : (t : Tables) (c : Call) (low high : Thing) (m : List ℕ) → Chain t c low high m → Chain (as_now t) (by c) (there low) (there high) m
  chain_there t c low high m k = record {
    barred = barred_there t low high k.barred;
    start = there k.start;
    begins = begins_there c low k.start k.begins;
    way = subst (λ (u : Tables). Way u (there k.start) m (there high)) (sym (effect_ren ρ σ v l t c)) (way_there (effect t c) (effect (as_now t) (by c)).numbers k.way);
  }

  pub chain_back : (t : Tables) (c : Call) (low high : Thing) (m : List ℕ) → Chain (as_now t) (by c) low high m → Chain t c (was low) (was high) m
  chain_back t c low high m k = record {
    barred = barred_back t low high k.barred;
    start = was k.start;
    begins = begins_back c low k.start k.begins;
    way = way_back (effect t c) (effect (as_now t) (by c)).numbers (subst (λ (u : Tables). Way u k.start m high) (effect_ren ρ σ v l t c) k.way);
  }

  pub fewest_there : (t : Tables) (c : Call) (m : List ℕ) → Fewest t c m → Fewest (as_now t) (by c) m
  fewest_there t c m f low high n k = f (was low) (was high) n (chain_back t c low high n k)
