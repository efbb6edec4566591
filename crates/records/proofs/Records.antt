-- The bytes of records, read record by record: what stands at the kind byte of each (`read_plain`, `read-repeat`, `read-unknown`), and past the last
-- (`read_none`). For code that judges records without writing their bytes. Assumes nothing.
use Prim.Native.Nat.{ℕ, zero, suc, ◌+◌}
use mathlib.Core.Path.{◌≡◌, refl, sym, ap, ◌∙◌, subst}
use mathlib.Core.Bool.{true, false}
use mathlib.Core.List.{List, [], ◌∷◌, ◌++◌}
use native.Mathlib.Omega.{arith}
use lib.ListN.{length, get_or, take, drop, length-append, take-append-drop}
use lib.Dec.{ltb, eqb, ltb→lt, eqb→eq}
use Rattle.rules.specs.Sharding.{Sharding}
use Rattle.rules.specs.Collectives.{Step}
use Rattle.rules.specs.Refusals.{accept, refuse, ◌>>=◌, ◌>>◌, need_at}
use Rattle.rules.specs.PlanFile.{lists_of, step_at, judge_step, plain, repeat, kind_byte, plain_at, positive_at, is_repeat}
use Rattle.laws.proofs.Lists.{n_t→false}
use Rattle.records.specs.Records.{Given, known, unknown, step_bytes, given_bytes, steps_bytes}
use Rattle.records.specs.Writing.{judge_counts}
use Rattle.records.specs.RoundTrip.{RankedStep}
use Rattle.records.proofs.Places.{From, from_all, from-length, from_next, from_byte, from-rest, from-lt, from_at}
use Rattle.records.proofs.Lists.{is_lt, then-bind, step_lists, step_from}
use Rattle.records.proofs.Given.{kind-first}

-- where record i begins
abbrev pub offset : List Given → ℕ → ℕ
offset gs i = length (steps_bytes (take i gs))

bytes-append : (l m : List Given) → steps_bytes (l ++ m) ≡ steps_bytes l ++ steps_bytes m
unfolding steps_bytes
bytes-append [] m = refl
bytes-append (g ∷ l) m =
    ap (λ (b : List ℕ). given_bytes g ++ b) (bytes-append l m) ∙ sym (mathlib.Core.List.append_assoc (given_bytes g) (steps_bytes l) (steps_bytes m))

pub from-record : (gs : List Given) (i : ℕ) → From (offset gs i) (steps_bytes gs) (steps_bytes (drop i gs))
from-record gs i =
    let z : steps_bytes gs ≡ steps_bytes (take i gs) ++ steps_bytes (drop i gs) = ap steps_bytes (sym (take-append-drop i gs)) ∙ bytes-append (take i gs) (drop i gs) in
    subst (λ (k : ℕ). From k (steps_bytes gs) (steps_bytes (drop i gs))) (omega arith)
    (from_next 0 (steps_bytes gs) (steps_bytes (take i gs)) (steps_bytes (drop i gs)) (subst (From 0 (steps_bytes gs)) z (from_all (steps_bytes gs))))

pub next-record : (gs : List Given) (i : ℕ) (g : Given) (rest : List Given) → drop i gs ≡ g ∷ rest → offset gs (i + 1) ≡ offset gs i + length (given_bytes g)
unfolding steps_bytes
next-record gs i g rest e = go gs i e
  where
    go : (l : List Given) (j : ℕ) → drop j l ≡ g ∷ rest → length (steps_bytes (take (j + 1) l)) ≡ length (steps_bytes (take j l)) + length (given_bytes g)
    go [] zero q = let z : ◌≡◌ {A = ℕ} 0 1 = cc in absurd (omega arith)
    go [] (suc j) q = let z : ◌≡◌ {A = ℕ} 0 1 = cc in absurd (omega arith)
    go (h ∷ l) zero q =
        let w : h ≡ g = cc in
        omega (arith, length-append (given_bytes h) [], ap (λ (x : Given). length (given_bytes x)) w)
    go (h ∷ l) (suc j) q =
        let n : suc j + 1 ≡ suc (j + 1) = omega arith in
        ap (λ (k : ℕ). length (steps_bytes (take k (h ∷ l)))) n
        ∙ omega (arith, length-append (given_bytes h) (steps_bytes (take (j + 1) l)), length-append (given_bytes h) (steps_bytes (take j l)), go l j q)

module _ (mesh sizes : List ℕ) (gs : List Given) (i : ℕ) where
  abbrev bytes : List ℕ
  bytes = steps_bytes gs

  abbrev at : ℕ
  at = offset gs i

  here : (rest : List Given) → drop i gs ≡ rest → From at bytes (steps_bytes rest)
  here rest e = subst (λ (l : List Given). From at bytes (steps_bytes l)) e (from-record gs i)

  -- ---- past the last record

  pub read_none : drop i gs ≡ [] → (is_repeat bytes at ≡ false) × ((k : ℕ) (s : Sharding) → plain_at mesh sizes bytes k at s ≡ refuse 7 0)
  unfolding plain_at step_at steps_bytes
  read_none e =
      let f : From at bytes [] = here [] e in
      let z : at + 0 ≡ at = omega arith in
      let b : get_or bytes at 0 ≡ 0 = ap (λ (j : ℕ). get_or bytes j 0) (sym z) ∙ from_at at bytes [] f 0 in
      let past : ltb at (length bytes) ≡ false =
      n_t→false (ltb at (length bytes)) (λ t. omega (arith, ltb→lt at (length bytes) t, from-length at bytes [] f)) in
      (ap (λ (j : ℕ). eqb j 9) b, λ k s. rw past refl)

  -- ---- a plain step

  pub read_plain : (t : Step) (rest : List Given) → drop i gs ≡ known (plain t) ∷ rest → RankedStep (length sizes) t
      → (is_repeat bytes at ≡ false)
      × ((k : ℕ) (s : Sharding) → plain_at mesh sizes bytes k at s
      ≡ ◌>>◌ (judge_counts (length mesh) (step_lists t))
      (◌>>=◌ (judge_step mesh sizes k t s) (λ after. accept (record { records = plain t ∷ []; steps = t ∷ []; sharding = after; next = offset gs (i + 1) }))))
  unfolding plain_at steps_bytes given_bytes
  read_plain t rest e r =
      let f : From at bytes (step_bytes t ++ steps_bytes rest) = here (known (plain t) ∷ rest) e in
      let h = kind-first t in
      let b : get_or bytes at 0 ≡ kind_byte (plain t) =
      from_byte at bytes (kind_byte (plain t)) (h.0 ++ steps_bytes rest) (subst (λ (l : List ℕ). From at bytes (l ++ steps_bytes rest)) h.1 f) in
      let other : is_repeat bytes at ≡ false =
      n_t→false (eqb (get_or bytes at 0) 9) (λ x. (let nine : get_or bytes at 0 ≡ 9 = eqb→eq (get_or bytes at 0) 9 x in omega (arith, h.2, b, nine))) in
      let next : at + length (step_bytes t) ≡ offset gs (i + 1) = sym (next-record gs i (known (plain t)) rest e) in
      (other, λ k s. rw (step_from (length mesh) (length sizes) k bytes at t (steps_bytes rest) r f, then-bind, next) refl)

  -- ---- a kind that there is not

  pub read-unknown : (rest : List Given) → drop i gs ≡ unknown ∷ rest
      → (is_repeat bytes at ≡ false) × ((k : ℕ) (s : Sharding) → plain_at mesh sizes bytes k at s ≡ refuse 20 k)
  unfolding plain_at step_at lists_of steps_bytes given_bytes
  read-unknown rest e =
      let f : From at bytes (0 ∷ steps_bytes rest) = here (unknown ∷ rest) e in
      let b : get_or bytes at 0 ≡ 0 = from_byte at bytes 0 (steps_bytes rest) f in
      (ap (λ (j : ℕ). eqb j 9) b, λ k s. rw (is_lt at (length bytes) (from-lt at bytes 0 (steps_bytes rest) f), b) refl)

  -- ---- a repeat

  pub read-repeat : (count number : ℕ) (rest : List Given) → drop i gs ≡ known (repeat count number) ∷ rest
      → (is_repeat bytes at ≡ true) × (at + 1 + 2 ≡ offset gs (i + 1))
      × ((k : ℕ) → positive_at k bytes (at + 1) ≡ ◌>>◌ (need_at k (ltb 0 count) 44) (accept count))
      × ((k : ℕ) → positive_at k bytes (at + 1 + 1) ≡ ◌>>◌ (need_at k (ltb 0 number) 44) (accept number))
  unfolding positive_at steps_bytes given_bytes
  read-repeat count number rest e =
      let f : From at bytes (9 ∷ count ∷ number ∷ steps_bytes rest) = here (known (repeat count number) ∷ rest) e in
      let g : From (at + 1) bytes (count ∷ number ∷ steps_bytes rest) = from-rest at bytes 9 (count ∷ number ∷ steps_bytes rest) f in
      let h : From (at + 1 + 1) bytes (number ∷ steps_bytes rest) = from-rest (at + 1) bytes count (number ∷ steps_bytes rest) g in
      let b : get_or bytes at 0 ≡ 9 = from_byte at bytes 9 (count ∷ number ∷ steps_bytes rest) f in
      let n : offset gs (i + 1) ≡ at + 3 = next-record gs i (known (repeat count number)) rest e in (
        ap (λ (j : ℕ). eqb j 9) b,
        (let z : at + 1 + 2 ≡ offset gs (i + 1) = omega (arith, n) in z),
        (λ k. rw (is_lt (at + 1) (length bytes) (from-lt (at + 1) bytes count (number ∷ steps_bytes rest) g), from_byte (at + 1) bytes count (number ∷ steps_bytes rest) g) refl),
        (λ k. rw (is_lt (at + 1 + 1) (length bytes) (from-lt (at + 1 + 1) bytes number (steps_bytes rest) h), from_byte (at + 1 + 1) bytes number (steps_bytes rest) h) refl),
      )
