-- The bytes of lists and of a step, read where they stand in a file (`list-from`, `lists-from`, `step_from`). Assumes nothing.
use Prim.Native.Nat.{ℕ, suc, ◌+◌, ◌≤◌, ◌<◌}
use mathlib.Core.Path.{◌≡◌, refl, sym, ap, subst}
use mathlib.Core.Bool.{true}
use mathlib.Core.List.{List, [], ◌∷◌, ◌++◌, append_assoc}
use native.Mathlib.Omega.{arith}
use native.Mathlib.Nat.{add_assoc}
use lib.ListN.{length, length-append}
use lib.Dec.{T, ltb, leb, eqb, le→leb, lt→ltb, eqb_refl}
use Rattle.rules.specs.Collectives.{Step, all_slice, all_gather, all_reduce, all_to_all, reduce_scatter}
use Rattle.rules.specs.Refusals.{Judged, accept, refuse, ◌>>=◌, ◌>>◌, need}
use Rattle.rules.specs.PlanFile.{Read, list_read_at, lists_at, lists_of, step_at}
use Rattle.laws.proofs.Lists.{T→true}
use Rattle.laws.proofs.Judging.{then-assoc}
use Rattle.records.specs.Records.{list_bytes, lists_bytes, step_bytes}
use Rattle.records.specs.Writing.{judge_counts}
use Rattle.records.specs.RoundTrip.{RankedStep}
use Rattle.records.proofs.Places.{From, from_next, from-take, from_byte, from-rest, from_second, from-lt}

-- what was read, and where the next byte is
abbrev pub read : {A : Type 0} → A → ℕ → Read A
read a k = record { value = a; next = k }

pub is_lt : (m n : ℕ) → m < n → ltb m n ≡ true
is_lt m n h = T→true (ltb m n) (lt→ltb m n h)

pub is_le : (m n : ℕ) → m ≤ n → leb m n ≡ true
is_le m n h = T→true (leb m n) (le→leb m n h)

pub is_eq : (m n : ℕ) → m ≡ n → eqb m n ≡ true
is_eq m n e = T→true (eqb m n) (subst (λ z. T (eqb m z)) e (eqb_refl m))

-- tests, and then what follows
pub then-bind : {A B : Type 0} (m : Judged (Unit {0})) (a : A) (f : A → Judged B) → ◌>>=◌ (◌>>◌ m (accept a)) f ≡ ◌>>◌ m (f a)
then-bind (accept t) a f = refl
then-bind (refuse n k) a f = refl

pub then-then : {A B : Type 0} (m : Judged (Unit {0})) (j : Judged A) (h : Judged B) → ◌>>◌ (◌>>◌ m j) h ≡ ◌>>◌ m (◌>>◌ j h)
then-then m j h = then-assoc m j h

pub bind-then : {A B : Type 0} (m : Judged (Unit {0})) (j : Judged A) (f : A → Judged B) → ◌>>=◌ (◌>>◌ m j) f ≡ ◌>>◌ m (◌>>=◌ j f)
bind-then (accept t) j f = refl
bind-then (refuse n k) j f = refl

module _ (n : ℕ) (file : List ℕ) where
  pub list-from : (at : ℕ) (l rest : List ℕ) → From at file (list_bytes l ++ rest)
      → list_read_at n file at ≡ ◌>>◌ (need (leb (length l) n) 8) (accept (read l (at + length (list_bytes l))))
  unfolding list_read_at
  list-from at l rest f =
      let g : From (at + 1) file (l ++ rest) = from-rest at file (length l) (l ++ rest) f in
      let lt : at < length file = from-lt at file (length l) (l ++ rest) f in
      let inside : at + 1 + length l ≤ length file = (from_next (at + 1) file l rest g).inside in
      let next : at + 1 + length l ≡ at + suc (length l) = omega arith in
      rw (
        is_lt at (length file) lt,
        from_byte at file (length l) (l ++ rest) f,
        is_le (at + 1 + length l) (length file) inside,
        from-take (at + 1) file l rest g,
        next,
      )

  pub lists-from : (at : ℕ) (ls : List (List ℕ)) (rest : List ℕ) → From at file (lists_bytes ls ++ rest)
      → lists_at n (length ls) file at ≡ ◌>>◌ (judge_counts n ls) (accept (read ls (at + length (lists_bytes ls))))
  unfolding lists_at judge_counts lists_bytes
  lists-from at [] rest f = let z : at ≡ at + 0 = omega arith in ap (λ (k : ℕ). accept (read {A = List (List ℕ)} [] k)) z
  lists-from at (l ∷ ls) rest f =
      let e : list_bytes l ++ (lists_bytes ls ++ rest) ≡ (list_bytes l ++ lists_bytes ls) ++ rest = sym (append_assoc (list_bytes l) (lists_bytes ls) rest) in
      let f' : From at file (list_bytes l ++ (lists_bytes ls ++ rest)) = subst (From at file) (sym e) f in
      let g : From (at + length (list_bytes l)) file (lists_bytes ls ++ rest) = from_next at file (list_bytes l) (lists_bytes ls ++ rest) f' in
      rw (
        list-from at l (lists_bytes ls ++ rest) f',
        then-bind,
        lists-from (at + length (list_bytes l)) ls rest g,
        then-bind,
        then-then,
        length-append (list_bytes l) (lists_bytes ls),
        add_assoc,
      )

-- the lists of a step, in file order
abbrev pub step_lists : Step → List (List ℕ)
step_lists (all_slice Ss) = Ss
step_lists (all_gather Gs) = Gs
step_lists (all_reduce L) = L ∷ []
step_lists (all_to_all source target L) = L ∷ []
step_lists (reduce_scatter Ss) = Ss

module _ (n rank k : ℕ) (file : List ℕ) where
  pub step_from : (at : ℕ) (t : Step) (rest : List ℕ) → RankedStep rank t → From at file (step_bytes t ++ rest)
      → step_at n rank k file at ≡ ◌>>◌ (judge_counts n (step_lists t)) (accept (read t (at + length (step_bytes t))))
  unfolding step_at lists_of step_bytes judge_counts
  step_from at (all_slice Ss) rest e f =
      let b : List ℕ = lists_bytes Ss in
      let g : From (at + 1) file (b ++ rest) = from-rest at file 1 (b ++ rest) f in
      let next : at + 1 + length b ≡ at + suc (length b) = omega arith in
      rw (is_lt at (length file) (from-lt at file 1 (b ++ rest) f), from_byte at file 1 (b ++ rest) f, ← e, lists-from n file (at + 1) Ss rest g, then-bind, next)
  step_from at (all_gather Gs) rest e f =
      let b : List ℕ = lists_bytes Gs in
      let g : From (at + 1) file (b ++ rest) = from-rest at file 2 (b ++ rest) f in
      let next : at + 1 + length b ≡ at + suc (length b) = omega arith in
      rw (is_lt at (length file) (from-lt at file 2 (b ++ rest) f), from_byte at file 2 (b ++ rest) f, ← e, lists-from n file (at + 1) Gs rest g, then-bind, next)
  step_from at (all_reduce L) rest e f =
      let b : List ℕ = list_bytes L in
      let g : From (at + 1) file (b ++ rest) = from-rest at file 3 (b ++ rest) f in
      let next : at + 1 + length b ≡ at + suc (length b) = omega arith in
      rw (is_lt at (length file) (from-lt at file 3 (b ++ rest) f), from_byte at file 3 (b ++ rest) f, list-from n file (at + 1) L rest g, then-bind, then-then, next)
  step_from at (all_to_all source target L) rest e f =
      let b : List ℕ = list_bytes L in
      let g : From (at + 1) file (source ∷ target ∷ b ++ rest) = from-rest at file 4 (source ∷ target ∷ b ++ rest) f in
      let h : From (at + 1 + 2) file (b ++ rest) = from_next (at + 1) file (source ∷ target ∷ []) (b ++ rest) g in
      let next : at + 1 + 2 + length b ≡ at + suc (suc (suc (length b))) = omega arith in
      rw (
        is_lt at (length file) (from-lt at file 4 (source ∷ target ∷ b ++ rest) f),
        from_byte at file 4 (source ∷ target ∷ b ++ rest) f,
        is_le (at + 1 + 2) (length file) h.inside,
        list-from n file (at + 1 + 2) L rest h,
        then-bind,
        then-then,
        from_byte (at + 1) file source (target ∷ b ++ rest) g,
        from_second (at + 1) file source target (b ++ rest) g,
        next,
      )
  step_from at (reduce_scatter Ss) rest e f =
      let b : List ℕ = lists_bytes Ss in
      let g : From (at + 1) file (b ++ rest) = from-rest at file 5 (b ++ rest) f in
      let next : at + 1 + length b ≡ at + suc (length b) = omega arith in
      rw (is_lt at (length file) (from-lt at file 5 (b ++ rest) f), from_byte at file 5 (b ++ rest) f, ← e, lists-from n file (at + 1) Ss rest g, then-bind, next)
