-- Nothing of an answer is lost in the code's types: a refusal's number is a reason's (`check-listed`, `place-listed`), and there is a place for each
-- dimension and for each axis of a list (`check-in-places`, `place-in-places`). Assumes nothing.
use Prim.Native.Nat.{ℕ, zero, suc, ◌+◌, ◌≤◌}
use mathlib.Core.Path.{◌≡◌, sym, subst}
use mathlib.Core.Logic.{inl, inr, ⊎_elim}
use mathlib.Core.Bool.{Bool, true, ◌&&◌}
use mathlib.Core.List.{List, [], ◌∷◌}
use native.Mathlib.Omega.{arith}
use lib.ListN.{length, get_or, length-append}
use lib.Dec.{T, eqb, ltb, leb, eqb→eq}
use Rattle.rules.specs.Lists.{flat, In}
use Rattle.rules.specs.Mesh.{devices}
use Rattle.rules.specs.Sharding.{Sharding}
use Rattle.rules.specs.Limits.{most_axes, most_dims}
use Rattle.rules.specs.Refusals.{accept, refuse}
use Rattle.types.specs.Answers.{number_of, reason_of}
use Rattle.rules.specs.PlanFile.{Plan, judge, announced, StateAnswer, steps_run, state_of}
use Rattle.rules.specs.Calls.{CheckAnswer, PlaceAnswer, check_of, place_of}
use Rattle.laws.specs.Demands.{file_numbers, step_numbers, Numbered}
use Rattle.laws.proofs.Lists.{T_and}
use Rattle.laws.proofs.Judging.{accept-inj, bind_inv, need-inv}
use Rattle.laws.proofs.Accepted.{AcceptedPlan, accepted}
use Rattle.laws.proofs.Room.{state}
use Rattle.laws.proofs.Refusing.{refusal_numbers}

-- ---- refusals

-- each number of a list is a reason's
abbrev each_listed : List ℕ → Bool
each_listed [] = true
each_listed (n ∷ l) = eqb (number_of (reason_of n)) n && each_listed l

one-listed : (l : List ℕ) (n : ℕ) → T (each_listed l) → In n l → number_of (reason_of n) ≡ n
one-listed [] n t x'' = elim x'' [ ]
one-listed (m ∷ l) n t (inl e) =
    subst (λ z. number_of (reason_of z) ≡ z) (sym e) (eqb→eq (number_of (reason_of m)) m (T_and (eqb (number_of (reason_of m)) m) (each_listed l) t).0)
one-listed (m ∷ l) n t (inr i) = one-listed l n (T_and (eqb (number_of (reason_of m)) m) (each_listed l) t).1 i

listed : (numbers : List ℕ) (steps n k : ℕ) → T (each_listed numbers) → Numbered numbers steps n k → number_of (reason_of n) ≡ n
unfolding reason_of
listed numbers steps n k t = ⊎_elim (λ o. one-listed numbers n t o.0) (λ i. one-listed step_numbers n tt i.0)

pub check-listed : (file : List ℕ) (n k : ℕ) → check_of file ≡ refuse n k → number_of (reason_of n) ≡ n
unfolding reason_of
check-listed file n k e = listed file_numbers (length file) n k tt (refusal_numbers.check file n k e)

pub place-listed : (file : List ℕ) (state device n k : ℕ) → place_of file state device ≡ refuse n k → number_of (reason_of n) ≡ n
unfolding reason_of
place-listed file state device n k e = listed (32 ∷ 34 ∷ file_numbers) (length file) n k tt (refusal_numbers.place file state device n k e)

-- ---- lists

pub record InPlaces (rank : ℕ) (s : Sharding) : Type 0 where
  pub rank_few : rank ≤ most_dims
  pub lists-few : (d : ℕ) → length (get_or s.dims d []) ≤ most_axes
  pub unreduced_few : length s.unreduced ≤ most_axes
  pub replicated_few : length s.replicated ≤ most_axes

list_of : (ls : List (List ℕ)) (d : ℕ) → length (get_or ls d []) ≤ length (flat ls)
list_of [] zero = omega arith
list_of [] (suc d) = omega arith
list_of (l ∷ ls) zero = simp length-append (omega arith)
list_of (l ∷ ls) (suc d) = simp length-append (omega (arith, list_of ls d))

-- the sharding announced after k plain steps run
state-in-places : (file : List ℕ) (p : Plan) → judge file ≡ accept p → (k : ℕ) → InPlaces (length p.sizes) (announced p k)
state-in-places file p e k =
    let a : AcceptedPlan p = accepted file p e in
    let s : Sharding = announced p k in
    let few : length (flat s.dims) + length s.unreduced + length s.replicated ≤ most_axes = simp length-append at (state a k).names-few in
    record {
      rank_few = a.within.rank_few;
      lists-few = λ d. omega (arith, list_of s.dims d);
      unreduced_few = omega arith;
      replicated_few = omega arith;
    }

pub check-in-places : (file : List ℕ) (a : CheckAnswer) → check_of file ≡ accept a → InPlaces a.rank a.sharding
unfolding check_of
check-in-places file a e =
    let j = bind_inv (judge file) _ a e in
    subst (λ (z : CheckAnswer). InPlaces z.rank z.sharding) (accept-inj j.2) (state-in-places file j.0 j.1 (length j.0.steps))

pub place-in-places : (file : List ℕ) (k d : ℕ) (a : PlaceAnswer) → place_of file k d ≡ accept a → InPlaces a.rank a.sharding
unfolding place_of state_of
place-in-places file k d a e =
    let s = bind_inv (state_of file k) _ a e in
    let x = need-inv 0 (ltb d (devices s.0.mesh)) 32 _ a s.2 in
    let j = bind_inv (judge file) _ s.0 s.1 in
    let y = need-inv 0 (leb k (length j.0.runs)) 34 _ s.0 j.2 in
    subst (λ (z : PlaceAnswer). InPlaces z.rank z.sharding) (accept-inj x.1)
    (subst (λ (z : StateAnswer). InPlaces (length z.sizes) z.sharding) (accept-inj y.1) (state-in-places file j.0 j.1 (steps_run j.0 k)))
