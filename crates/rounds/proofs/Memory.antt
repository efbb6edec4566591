-- The memory of a run: what one step of the code leaves is the memory after the rules' step (`step-leaves`); shards stand in the buffer that is named,
-- after any steps (`leaves-stands`); and what steps leave, one after the other, all of them leave (`leaves-append`). Assumes nothing.
use Prim.Native.Nat.{ℕ}
use mathlib.Core.Path.{◌≡◌, refl, sym, ap, ◌∙◌, subst}
use mathlib.Core.Bool.{Bool, true, false, not}
use mathlib.Core.List.{List, [], ◌∷◌, ◌++◌}
use native.Mathlib.Omega.{arith}
use Rattle.rules.specs.Lists.{pick, in_turn}
use Rattle.rules.specs.Spread.{add_words}
use Rattle.rules.specs.Collectives.{Step, all_slice, all_gather, all_reduce, all_to_all, reduce_scatter, Shards, stepped, Stands, with_shards}
use Rattle.laws.proofs.Lists.{in-turn-append}
use Rattle.laws.proofs.Stands.{with-stands}
use Rattle.step.specs.Stepping.{in_place, spent_shards}
use Rattle.rounds.specs.Rounds.{stands_after, Memory, put_in, spent_in, memory_after, Leaves}

-- a step that is done in place spends nothing besides
stays-spends : (mesh : List ℕ) (t : Step) → in_place t ≡ true → (v : Shards ℕ) (l : List ℕ) → spent_shards add_words mesh t v l ≡ l
stays-spends mesh (all_slice Ss) e v l = refl
stays-spends mesh (all_gather Gs) e v l = refl
stays-spends mesh (all_reduce L) e v l = refl
stays-spends mesh (all_to_all source target L) e v l = refl
stays-spends mesh (reduce_scatter Ss) e v l = let z : ◌≡◌ {A = ℕ} 0 1 = cc in absurd (omega arith)

module _ (mesh : List ℕ) where
  abbrev run : List Step → Shards ℕ → Shards ℕ
  run ts v = in_turn (stepped add_words mesh) ts v

  -- of two buffers, the one in which the next shards are put, and the other one, of which t has spent what it spends
  put-in : (b in_work : Bool) (t : Step) → b ≡ in_place t → (u v : Shards ℕ) (work spare work' spare' : List ℕ)
      → pick b (pick in_work work' spare') (pick in_work spare' work') ≡ with_shards mesh u (pick b (pick in_work work spare) (pick in_work spare work))
      → pick b (pick in_work spare' work') (pick in_work work' spare')
      ≡ pick b (pick in_work spare work) (spent_shards add_words mesh t v (pick in_work work spare))
      → record { shards = u; in_work = pick b in_work (not in_work); work = work'; spare = spare' }
      ≡ put_in mesh u (pick b in_work (not in_work)) (spent_in mesh t (record { shards = v; in_work = in_work; work = work; spare = spare }))
  put-in true true t s u v work spare work' spare' p q =
      let w = p ∙ ap (with_shards mesh u) (sym (stays-spends mesh t (sym s) v work)) in λ i. record { shards = u; in_work = true; work = w i; spare = q i }
  put-in true false t s u v work spare work' spare' p q =
      let w = p ∙ ap (with_shards mesh u) (sym (stays-spends mesh t (sym s) v spare)) in λ i. record { shards = u; in_work = false; work = q i; spare = w i }
  put-in false true t s u v work spare work' spare' p q = λ i. record { shards = u; in_work = false; work = q i; spare = p i }
  put-in false false t s u v work spare work' spare' p q = λ i. record { shards = u; in_work = true; work = p i; spare = q i }

  pub step-leaves : (t : Step) (in_work : Bool) (v : Shards ℕ) (work spare work' spare' : List ℕ)
      → pick (in_place t) (pick in_work work' spare') (pick in_work spare' work')
      ≡ with_shards mesh (stepped add_words mesh t v) (pick (in_place t) (pick in_work work spare) (pick in_work spare work))
      → pick (in_place t) (pick in_work spare' work') (pick in_work work' spare')
      ≡ pick (in_place t) (pick in_work spare work) (spent_shards add_words mesh t v (pick in_work work spare))
      → record { shards = stepped add_words mesh t v; in_work = stands_after t in_work; work = work'; spare = spare' }
      ≡ memory_after mesh t (record { shards = v; in_work = in_work; work = work; spare = spare })
  unfolding memory_after
  step-leaves t in_work v work spare work' spare' p q =
      put-in (in_place t) in_work t refl (stepped add_words mesh t v) v work spare work' spare' p q

  -- shards stand in the buffer that is named
  abbrev Standing : Memory → Type 0
  Standing m = Stands mesh m.shards (pick m.in_work m.work m.spare)

  put-stands : (v : Shards ℕ) (b : Bool) (m : Memory) → Standing (put_in mesh v b m)
  put-stands v true m = with-stands mesh v m.work
  put-stands v false m = with-stands mesh v m.spare

  turns-stand : (ts : List Step) (m : Memory) → Standing m → Standing (in_turn (memory_after mesh) ts m)
  unfolding memory_after
  turns-stand [] m h = h
  turns-stand (t ∷ ts) m h = turns-stand ts (memory_after mesh t m) (put-stands (stepped add_words mesh t m.shards) (stands_after t m.in_work) (spent_in mesh t m))

  module _ {shape : List ℕ} (ts : List Step) (in_work : Bool) (work spare : List ℕ) {in-work' : Bool} {work' spare' : List ℕ}
      (l : Leaves mesh shape ts in_work work spare in-work' work' spare') where
    pub leaves-stands : (v : Shards ℕ) → v.shape ≡ shape → Stands mesh v (pick in_work work spare) → Stands mesh (run ts v) (pick in-work' work' spare')
    leaves-stands v e st =
        subst Standing (sym (l v e st)) (turns-stand ts (record { shards = v; in_work = in_work; work = work; spare = spare }) st)

    pub leaves-append : {shape' : List ℕ} (us : List Step) {in-work'' : Bool} {work'' spare'' : List ℕ}
        → ((v : Shards ℕ) → v.shape ≡ shape → (run ts v).shape ≡ shape') → Leaves mesh shape' us in-work' work' spare' in-work'' work'' spare''
        → Leaves mesh shape (ts ++ us) in_work work spare in-work'' work'' spare''
    leaves-append us {in-work''} {work''} {spare''} shaped k v e st =
        ap (λ (x : Shards ℕ). record { shards = x; in_work = in-work''; work = work''; spare = spare'' }) (in-turn-append (stepped add_words mesh) ts us v)
        ∙ k (run ts v) (shaped v e) (leaves-stands v e st) ∙ ap (in_turn (memory_after mesh) us) (l v e st)
        ∙ sym (in-turn-append (memory_after mesh) ts us (record { shards = v; in_work = in_work; work = work; spare = spare }))
