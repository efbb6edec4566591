-- Laws of what is given: lists with no more axes than places are the lists of the code, and how many bytes they take. Assumes nothing.
use Prim.Native.Nat.{ℕ, zero, suc, ◌+◌, ◌*◌, ◌≤◌, ◌<◌}
use mathlib.Core.Bool.{Bool, true, false, not}
use mathlib.Core.Path.{◌≡◌, refl, sym, ap, ap₂, ◌∙◌, subst}
use mathlib.Core.List.{List, [], ◌∷◌, ◌++◌, map, append-nil, append_assoc}
use native.Mathlib.Omega.{arith}
use native.Mathlib.Numerals.{add-one}
use native.Mathlib.Nat.{div-add-mod'}
use Rattle.std.proofs.lemmas.List.{take-map}
use lib.Dec.{T, leb, leb→le, eqb, eqb→eq}
use lib.ListN.{length, get_or, take, replicate, length-append, length-map, length-take, length-replicate, get_or-map}
use Rattle.std.specs.Prelude.{Option, Some, None}
use Rattle.rules.specs.Lists.{tab, pick}
use Rattle.rules.specs.Limits.{most_axes, most_dims}
use Rattle.rules.specs.PlanFile.{repeat}
use Rattle.types.specs.Types.{axes_of, dims_of, numbers_of}
use Rattle.types.specs.declared.Axis.{Axis}
use Rattle.types.specs.declared.AxisList.{AxisList}
use Rattle.types.specs.declared.DimLists.{DimLists}
use Rattle.types.specs.declared.Sharding as code
use Rattle.types.specs.declared.Step.{Step}
use Rattle.types.specs.declared.Step.TheVariants.{AllSlice, AllGather, AllReduce, AllToAll, ReduceScatter}
use Rattle.laws.proofs.Lists.{n_t→false}
use Rattle.records.specs.Records.{Given, known, list_bytes, lists_bytes, replicated_bytes, sharding_bytes, step_bytes, given_bytes, steps_bytes}
use Rattle.records.specs.Forms.{list_given, dims_given, sharding_given, record_bytes, step_record, step_given, given_kind, given_at, record_count, steps_given}
use Rattle.records.specs.RoundTrip.{ShortLists, ShortSharding, ShortStep, ShortGiven}
use Rattle.records.proofs.Lists.{is_le, is_eq}
use Rattle.encode.specs.Putting.{Put}
use Rattle.encode.proofs.Puts.{put-none, put_both}

pub list-given : (l : AxisList) → length (list_given l) ≤ most_axes → list_given l ≡ axes_of l
unfolding list_given
list-given l h = go (leb l.count most_axes) refl h
  where
    go : (b : Bool) → leb l.count most_axes ≡ b → length (pick b (axes_of l) (replicate l.count 0)) ≤ most_axes
        → pick b (axes_of l) (replicate l.count 0) ≡ axes_of l
    go true e k = refl
    go false e k =
        let few : l.count ≤ most_axes = omega (arith, k, length-replicate {A = ℕ} l.count 0) in
        absurd (subst (λ (b : Bool). T (not b)) (sym e ∙ is_le l.count most_axes few) tt)

pub dims-given : (rank : ℕ) (ls : DimLists) → ShortLists (dims_given rank ls) → dims_given rank ls ≡ take rank (dims_of ls)
unfolding dims_given dims_of
dims-given rank ls h = go rank ls.0 h
  where
    go : (n : ℕ) (l : List AxisList) → ShortLists (take n (map list_given l)) → take n (map list_given l) ≡ take n (map axes_of l)
    go zero l k = refl
    go (suc n) [] k = refl
    go (suc n) (x ∷ l) k = ap₂ (λ (y : List ℕ) (m : List (List ℕ)). y ∷ m) (list-given x (k 0)) (go n l (λ d. k (suc d)))

pub dims-short : (rank : ℕ) (ls : DimLists) → ShortLists (dims_given rank ls) → ShortLists (take rank (dims_of ls))
dims-short rank ls h = subst ShortLists (dims-given rank ls h) h

pub lists-given : {entry exit : List ℕ} {at r : ℕ} (rank : ℕ) (ls : DimLists) → ShortLists (dims_given rank ls)
    → Put entry exit at r (lists_bytes (take rank (dims_of ls))) → Put entry exit at r (lists_bytes (dims_given rank ls))
lists-given {entry} {exit} {at} {r} rank ls h p =
    subst (λ (l : List (List ℕ)). Put entry exit at r (lists_bytes l)) (sym (dims-given rank ls h)) p

pub axes-short : (l : AxisList) → length (list_given l) ≤ most_axes → length (axes_of l) ≤ most_axes
axes-short l h = subst (λ (x : List ℕ). length x ≤ most_axes) (list-given l h) h

pub list_put : {entry exit : List ℕ} {at r : ℕ} (l : AxisList) → length (list_given l) ≤ most_axes → Put entry exit at r (list_bytes (axes_of l))
    → Put entry exit at r (list_bytes (list_given l))
list_put {entry} {exit} {at} {r} l h p = subst (λ (x : List ℕ). Put entry exit at r (list_bytes x)) (sym (list-given l h)) p

-- the axes of a list, and the lists, as they stand in the code's arrays
pub numbers-length : (l : List Axis) → length (numbers_of l) ≡ length l
unfolding numbers_of
numbers-length l = length-map l (λ (a : Axis). a.0)

pub number-at : (l : List Axis) (i : ℕ) → (get_or l i (record { 0 = 0 })).0 ≡ get_or (numbers_of l) i 0
unfolding numbers_of
number-at l i = sym (get_or-map (λ (a : Axis). a.0) l i (record { 0 = 0 }))

pub lists-length : (rank : ℕ) (ls : DimLists) → length (take rank (dims_of ls)) ≡ length (take rank ls.0)
unfolding dims_of
lists-length rank ls = ap length (take-map axes_of rank ls.0) ∙ length-map (take rank ls.0) axes_of

pub list-at : (rank : ℕ) (ls : DimLists) (d : ℕ) → axes_of (get_or (take rank ls.0) d (record { count = 0; axes = []; align = [] })) ≡ get_or (take rank (dims_of ls)) d []
unfolding dims_of axes_of
list-at rank ls d =
    sym (ap (λ (l : List (List ℕ)). get_or l d []) (take-map axes_of rank ls.0) ∙ get_or-map axes_of (take rank ls.0) d (record { count = 0; axes = []; align = [] }))

-- ---- how many bytes they take

lists_length : (ls : List (List ℕ)) → ShortLists ls → length (lists_bytes ls) ≤ 7 * length ls
unfolding lists_bytes
lists_length [] h = omega arith
lists_length (l ∷ ls) h = omega (arith, h 0, lists_length ls (λ d. h (suc d)), length-append l (lists_bytes ls))

pub lists-few : (rank : ℕ) (ls : DimLists) → rank ≤ most_dims → ShortLists (dims_given rank ls) → length (lists_bytes (dims_given rank ls)) ≤ 28
unfolding dims_given
lists-few rank ls h f = omega (arith, lists_length (dims_given rank ls) f, length-take rank (map list_given ls.0))

-- ---- a sharding

not-le : (m n : ℕ) → n < m → leb m n ≡ false
not-le m n h = n_t→false (leb m n) (λ t. omega (arith, leb→le m n t, h))

module _ {entry exit : List ℕ} {at r : ℕ} where
  pub replicated-put : (e : ℕ) (l : List ℕ) → 2 ≤ e → Put entry exit at r (list_bytes l) → Put entry exit at r (replicated_bytes e l)
  unfolding replicated_bytes
  replicated-put e l h p = subst (λ (b : Bool). Put entry exit at r (pick b (list_bytes l) [])) (sym (is_le 2 e h)) p

  pub replicated-none : (e : ℕ) (l : List ℕ) → e < 2 → Put entry exit at r [] → Put entry exit at r (replicated_bytes e l)
  unfolding replicated_bytes
  replicated-none e l h p = subst (λ (b : Bool). Put entry exit at r (pick b (list_bytes l) [])) (sym (not-le 2 e h)) p

module _ {a b c d : List ℕ} {at i j r : ℕ} where
  pub sharding-put : (e rank : ℕ) (s : code.Sharding) → ShortSharding (sharding_given rank s) → Put a b at i (lists_bytes (dims_given rank s.dims))
      → Put b c i j (list_bytes (axes_of s.unreduced)) → Put c d j r (replicated_bytes e (axes_of s.replicated))
      → Put a d at r (sharding_bytes e (sharding_given rank s))
  unfolding sharding_bytes
  sharding-put e rank s h p q w =
      put_both p (put_both (list_put s.unreduced h.unreduced q)
      (subst (λ (x : List ℕ). Put c d j r (replicated_bytes e x)) (sym (list-given s.replicated h.replicated)) w))

-- ---- a record

module _ (rank : ℕ) (bytes : List ℕ) (from : ℕ) where
  pub repeat-given : get_or bytes from 0 ≡ 9 → given_at rank bytes from ≡ known (repeat (get_or bytes (from + 1) 0) (get_or bytes (from + 2) 0))
  unfolding given_at
  repeat-given e = rw (is_eq (get_or bytes from 0) 9 e) refl

  pub plain-given : (get_or bytes from 0 ≡ 9 → ⊥) → given_at rank bytes from ≡ given_kind rank (step_record bytes from)
  unfolding given_at
  plain-given n = rw (n_t→false (eqb (get_or bytes from 0) 9) (λ t. n (eqb→eq (get_or bytes from 0) 9 t))) refl

  given-as : (get_or bytes from 0 ≡ 9 → ⊥) → {t : Option Step} → t ≡ step_record bytes from → given_at rank bytes from ≡ given_kind rank t
  given-as n e = plain-given n ∙ ap (given_kind rank) (sym e)

  pub plain-short : (get_or bytes from 0 ≡ 9 → ⊥) → {t : Step} → Some t ≡ step_record bytes from → ShortGiven (given_at rank bytes from)
      → ShortStep (step_given rank t)
  plain-short n e h = subst ShortGiven (given-as n e) h

  pub repeat-put : {entry exit : List ℕ} {at r : ℕ} → get_or bytes from 0 ≡ 9
      → Put entry exit at r (9 ∷ get_or bytes (from + 1) 0 ∷ get_or bytes (from + 2) 0 ∷ []) → Put entry exit at r (given_bytes (given_at rank bytes from))
  unfolding given_bytes
  repeat-put {entry} {exit} {at} {r} e p = subst (λ (g : Given). Put entry exit at r (given_bytes g)) (sym (repeat-given e)) p

  pub plain-put : {entry exit : List ℕ} {at r : ℕ} → (get_or bytes from 0 ≡ 9 → ⊥) → {t : Step} → Some t ≡ step_record bytes from
      → Put entry exit at r (step_bytes (step_given rank t)) → Put entry exit at r (given_bytes (given_at rank bytes from))
  unfolding given_bytes
  plain-put {entry} {exit} {at} {r} n e p = subst (λ (g : Given). Put entry exit at r (given_bytes g)) (sym (given-as n e)) p

  pub unknown-put : {entry exit : List ℕ} {at r : ℕ} → (get_or bytes from 0 ≡ 9 → ⊥) → None ≡ step_record bytes from
      → Put entry exit at r (0 ∷ []) → Put entry exit at r (given_bytes (given_at rank bytes from))
  unfolding given_bytes
  unknown-put {entry} {exit} {at} {r} n e p = subst (λ (g : Given). Put entry exit at r (given_bytes g)) (sym (given-as n e)) p

  kind-few : (t : Option Step) → rank ≤ most_dims → ShortGiven (given_kind rank t) → length (given_bytes (given_kind rank t)) ≤ 31
  unfolding given_bytes step_bytes
  kind-few (Some (AllSlice lists)) h f = omega (arith, lists-few rank lists h f)
  kind-few (Some (AllGather lists)) h f = omega (arith, lists-few rank lists h f)
  kind-few (Some (AllReduce list)) h f = omega (arith, f)
  kind-few (Some (AllToAll source target list)) h f = omega (arith, f)
  kind-few (Some (ReduceScatter lists)) h f = omega (arith, lists-few rank lists h f)
  kind-few None h f = omega arith

  -- a record by whether it is a repeat
  abbrev either : Bool → Given
  either b = pick b (known (repeat (get_or bytes (from + 1) 0) (get_or bytes (from + 2) 0))) (given_kind rank (step_record bytes from))

  -- a record takes at most 31 bytes
  pub record-few : rank ≤ most_dims → ShortGiven (given_at rank bytes from) → length (given_bytes (given_at rank bytes from)) ≤ 31
  unfolding given_at given_bytes
  record-few h f = go (eqb (get_or bytes from 0) 9) f
    where
      go : (b : Bool) → ShortGiven (either b) → length (given_bytes (either b)) ≤ 31
      go true g = omega arith
      go false g = kind-few (step_record bytes from) h g

-- ---- all records

pub record-inside : (bytes : List ℕ) (i : ℕ) → i < record_count bytes → record_bytes * i + record_bytes ≤ length bytes
record-inside bytes i h = omega (arith, div-add-mod' (length bytes) 38)

abbrev given_first : ℕ → List ℕ → ℕ → List Given
given_first rank bytes i = tab i (λ j. given_at rank bytes (record_bytes * j))

pub record Records (out₀ out : List ℕ) (at place rank : ℕ) (bytes : List ℕ) (i : ℕ) : Type 0 where
  pub few : i ≤ record_count bytes
  pub near : place ≤ at + 31 * i
  pub put : Put out₀ out at place (steps_bytes (given_first rank bytes i))

pub records-start : (out : List ℕ) (at rank : ℕ) (bytes : List ℕ) → Records out out at at rank bytes 0
unfolding steps_bytes
records-start out at rank bytes = record { few = omega arith; near = omega arith; put = put-none out at }

steps-append : (ks ls : List Given) → steps_bytes (ks ++ ls) ≡ steps_bytes ks ++ steps_bytes ls
unfolding steps_bytes
steps-append [] ls = refl
steps-append (k ∷ ks) ls =
    ap (λ (l : List ℕ). given_bytes k ++ l) (steps-append ks ls) ∙ sym (append_assoc (given_bytes k) (steps_bytes ks) (steps_bytes ls))

steps-one : (g : Given) → steps_bytes (g ∷ []) ≡ given_bytes g
unfolding steps_bytes
steps-one g = append-nil (given_bytes g)

steps_next : (rank : ℕ) (bytes : List ℕ) (i : ℕ)
    → steps_bytes (given_first rank bytes (i + 1)) ≡ steps_bytes (given_first rank bytes i) ++ given_bytes (given_at rank bytes (record_bytes * i))
steps_next rank bytes i =
    let g : Given = given_at rank bytes (record_bytes * i) in
    ap (λ (k : ℕ). steps_bytes (given_first rank bytes k)) (add-one i) ∙ steps-append (given_first rank bytes i) (g ∷ [])
    ∙ ap (λ (l : List ℕ). steps_bytes (given_first rank bytes i) ++ l) (steps-one g)

pub records-step : {out₀ out next : List ℕ} {at place r rank : ℕ} {bytes : List ℕ} {i : ℕ} → Records out₀ out at place rank bytes i
    → i < record_count bytes → rank ≤ most_dims → ShortGiven (given_at rank bytes (record_bytes * i))
    → Put out next place r (given_bytes (given_at rank bytes (record_bytes * i))) → Records out₀ next at r rank bytes (i + 1)
records-step {out₀} {out} {next} {at} {place} {r} {rank} {bytes} {i} s less h f p = record {
  few = omega arith;
  near = omega (arith, s.near, p.next, record-few rank bytes (record_bytes * i) h f);
  put = subst (Put out₀ next at r) (sym (steps_next rank bytes i)) (put_both s.put p);
}

pub records-done : {out₀ out : List ℕ} {at place rank : ℕ} {bytes : List ℕ} {i : ℕ} → Records out₀ out at place rank bytes i
    → record_count bytes ≤ i → Put out₀ out at place (steps_bytes (steps_given rank bytes))
unfolding steps_given
records-done {out₀} {out} {at} {place} {rank} {bytes} {i} s h =
    let e : i ≡ record_count bytes = omega (arith, s.few) in
    subst (λ (k : ℕ). Put out₀ out at place (steps_bytes (given_first rank bytes k))) e s.put
