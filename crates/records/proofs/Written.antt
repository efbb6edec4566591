-- The file of records, section by section: the check's judgement of the file is the judgement of the records (`file_judged`), where these can stand in a
-- file (`Fits`). Assumes nothing.
use Prim.Native.Nat.{ℕ, zero, suc, ◌+◌, ◌-◌, ◌*◌, ◌≤◌, ◌<◌}
use mathlib.Core.Path.{◌≡◌, refl, sym, ap, ◌∙◌, subst}
use mathlib.Core.Bool.{Bool, true, false, not}
use mathlib.Core.List.{List, [], ◌∷◌, ◌++◌, append_assoc}
use native.Mathlib.Omega.{arith}
use lib.ListN.{length, get_or, length-append}
use lib.Dec.{T, leb, eqb, lit<}
use Rattle.rules.specs.Lists.{tab, pick}
use Rattle.rules.specs.Mesh.{devices}
use Rattle.rules.specs.Sharding.{Sharding}
use Rattle.rules.specs.Collectives.{all_slice, all_gather, all_reduce, all_to_all, reduce_scatter}
use Rattle.rules.specs.Limits.{present, most_bytes, least_bytes, most_steps, most_devices, most_words, every_kind}
use Rattle.rules.specs.Refusals.{Judged, accept, refuse, ◌>>=◌, ◌>>◌, need}
use Rattle.rules.specs.PlanFile.{u16_at, edition_known, axes_allowed, rank_allowed, judge_header, judge_header_by, judge_sizes, sizes_at, order_allowed, order_at, carries_order, mesh_and_table_at_by, replicated_at, carries_replicated, sharding_at, judge_start, some, one_meaning, plain, repeat, Outermost, outermost_at, Front, judge_front, judge_front_by, Plan, judge, judge_by}
use Rattle.laws.proofs.Lists.{tab-cong}
use Rattle.laws.proofs.Fronts.{whole-tab}
use Rattle.records.specs.Records.{
  Given,
  known,
  unknown,
  outermost,
  outermost_from,
  inner_of,
  u16_bytes,
  u16s_bytes,
  list_bytes,
  lists_bytes,
  edition_of,
  replicated_bytes,
  sharding_bytes,
  step_bytes,
  given_bytes,
  steps_bytes,
  Records,
  tensor_start,
  sharding_start,
  steps_start,
  file_length,
  header,
  file_of,
}
use Rattle.records.specs.Writing.{judge_counts, judge_sharding, judge_order, order_of, judge_opening, step_numbered, judge_records}
use Rattle.records.specs.RoundTrip.{Shorts, Fits}
use Rattle.records.proofs.Places.{From, from_all, from-length, from_next, from-u16}
use Rattle.records.proofs.Numbers.{all-numbered, outermost-within}
use Rattle.records.proofs.Lists.{read, is_le, is_eq, then-bind, then-then, bind-then, list-from, lists-from}
use Rattle.records.proofs.Moved.{judged_by, bind-by, outermost_further, outermost-moved}
use Rattle.records.proofs.Given.{all-given}

-- ---- numbers of 16 bits

pub length-u16s : (ks : List ℕ) → length (u16s_bytes ks) ≡ 2 * length ks
unfolding u16s_bytes
length-u16s [] = refl
length-u16s (k ∷ ks) = omega (arith, length-u16s ks)

module _ (file : List ℕ) where
  pub number-from : (at : ℕ) (ks rest : List ℕ) → Shorts ks → From at file (u16s_bytes ks ++ rest) → (i : ℕ) → i < length ks → u16_at file (at + 2 * i) ≡ get_or ks i 0
  unfolding u16s_bytes
  number-from at [] rest h f i l = absurd (omega arith)
  number-from at (k ∷ ks) rest h f zero l = let z : at + 2 * 0 ≡ at = omega arith in ap (u16_at file) z ∙ from-u16 at file k (u16s_bytes ks ++ rest) (h 0) f
  number-from at (k ∷ ks) rest h f (suc i) l =
      let e : at + 2 * suc i ≡ at + 2 + 2 * i = omega arith in
      ap (u16_at file) e ∙ number-from (at + 2) ks rest (λ j. h (suc j)) (from_next at file (u16_bytes k) (u16s_bytes ks ++ rest) f) i (omega arith)

  pub numbers-from : (at : ℕ) (ks rest : List ℕ) → Shorts ks → From at file (u16s_bytes ks ++ rest) → tab (length ks) (λ i. u16_at file (at + 2 * i)) ≡ ks
  numbers-from at ks rest h f =
      tab-cong (length ks) (λ i. u16_at file (at + 2 * i)) (λ i. get_or ks i 0) (number-from at ks rest h f) ∙ sym (whole-tab 0 ks)

  pub sizes-from : (most z o at : ℕ) (ks rest : List ℕ) → Shorts ks → From at file (u16s_bytes ks ++ rest)
      → sizes_at most z o (length ks) at file at ≡ ◌>>◌ (judge_sizes most z o 1 ks) (accept (read ks (at + length (u16s_bytes ks))))
  unfolding sizes_at
  sizes-from most z o at ks rest h f =
      let inside : at + 2 * length ks ≤ length file = omega (arith, length-u16s ks, (from_next at file (u16s_bytes ks) rest f).inside) in
      rw (is_eq at at refl, is_le (at + 2 * length ks) (length file) inside, numbers-from at ks rest h f, ← length-u16s ks)

  -- ---- the order

  pub order_from : (n at : ℕ) (order rest : List ℕ) (b : Bool) → Shorts order → (T (some order) → length order ≡ n) → From at file (u16s_bytes order ++ rest)
      → order_at (carries_order (pick (some order) 3 (pick b 2 1))) n file at ≡ ◌>>◌ (judge_order n order) (accept (read (order_of n order) (at + length (u16s_bytes order))))
  unfolding order_at judge_order
  order_from n at [] rest true h l f = unfold u16s_bytes in let z : at ≡ at + 0 = omega arith in ap (λ (k : ℕ). accept (read (order_of n []) k)) z
  order_from n at [] rest false h l f = unfold u16s_bytes in let z : at ≡ at + 0 = omega arith in ap (λ (k : ℕ). accept (read (order_of n []) k)) z
  order_from n at (a ∷ order) rest b h l f =
      let o : List ℕ = a ∷ order in
      let many : length o ≡ n = l tt in
      let inside : at + 2 * length o ≤ length file = omega (arith, length-u16s o, (from_next at file (u16s_bytes o) rest f).inside) in
      subst (λ (m : ℕ). order_at true m file at ≡ ◌>>◌ (need (order_allowed m o) 19) (accept (read o (at + length (u16s_bytes o))))) many
      (rw (is_le (at + 2 * length o) (length file) inside, numbers-from at o rest h f, ← length-u16s o) refl)

  -- ---- the sharding

  replicated-from : (n e at : ℕ) (l rest : List ℕ) → (leb 2 e ≡ false → l ≡ []) → From at file (replicated_bytes e l ++ rest)
      → replicated_at (carries_replicated e) n file at ≡ ◌>>◌ (need (leb (length l) n) 8) (accept (read l (at + length (replicated_bytes e l))))
  unfolding replicated_at replicated_bytes
  replicated-from n e at l rest h f = go (leb 2 e) h f
    where
      go : (b : Bool) → (b ≡ false → l ≡ []) → From at file (pick b (list_bytes l) [] ++ rest)
          → replicated_at b n file at ≡ ◌>>◌ (need (leb (length l) n) 8) (accept (read l (at + length (pick b (list_bytes l) []))))
      go true h f = list-from n file at l rest f
      go false h f =
          let none : l ≡ [] = h refl in
          let z : at ≡ at + 0 = omega arith in
          subst (λ (m : List ℕ). accept (read {A = List ℕ} [] at) ≡ ◌>>◌ (need (leb (length m) n) 8) (accept (read m (at + 0)))) (sym none)
          (rw (is_le 0 n (omega arith)) (ap (λ (k : ℕ). accept (read {A = List ℕ} [] k)) z))

  sharding-from : (n e at : ℕ) (s : Sharding) (rest : List ℕ) → (leb 2 e ≡ false → s.replicated ≡ []) → From at file (sharding_bytes e s ++ rest)
      → sharding_at (carries_replicated e) n (length s.dims) at file at
      ≡ ◌>>◌ (judge_counts n s.dims) (◌>>◌ (judge_counts n (s.unreduced ∷ s.replicated ∷ [])) (accept (read s (at + length (sharding_bytes e s)))))
  unfolding sharding_at sharding_bytes judge_counts
  sharding-from n e at s rest h f =
      let ds : List ℕ = lists_bytes s.dims in
      let u : List ℕ = list_bytes s.unreduced in
      let v : List ℕ = replicated_bytes e s.replicated in
      let f1 : From at file (ds ++ ((u ++ v) ++ rest)) = subst (From at file) (append_assoc ds (u ++ v) rest) f in
      let f2 : From (at + length ds) file (u ++ (v ++ rest)) = subst (From (at + length ds) file) (append_assoc u v rest) (from_next at file ds ((u ++ v) ++ rest) f1) in
      let f3 : From (at + length ds + length u) file (v ++ rest) = from_next (at + length ds) file u (v ++ rest) f2 in
      let end : at + length ds + length u + length v ≡ at + (length ds + (length u + length v)) = omega arith in
      rw (
        is_eq at at refl,
        lists-from n file at s.dims ((u ++ v) ++ rest) f1,
        then-bind,
        list-from n file (at + length ds) s.unreduced (v ++ rest) f2,
        then-bind,
        replicated-from n e (at + length ds + length u) s.replicated rest h f3,
        then-bind,
        length-append ds (u ++ v),
        length-append u v,
        end,
        then-then,
        then-then,
      ) refl

-- ---- the edition

known-edition : (order replicated : List ℕ) → edition_known present (pick (some order) 3 (pick (some replicated) 2 1)) ≡ true
known-edition [] [] = refl
known-edition [] (a ∷ l) = refl
known-edition (a ∷ l) replicated = refl

-- 18 is never given
meaning-edition : (order replicated : List ℕ) → one_meaning (pick (some order) 3 (pick (some replicated) 2 1)) replicated ≡ true
meaning-edition [] [] = refl
meaning-edition [] (a ∷ l) = refl
meaning-edition (a ∷ l) replicated = refl

first_edition : (order replicated : List ℕ) → leb 2 (pick (some order) 3 (pick (some replicated) 2 1)) ≡ false → replicated ≡ []
first_edition [] [] e = refl
first_edition [] (a ∷ l) e = absurd (subst (λ (b : Bool). T (not b)) (sym e) tt)
first_edition (a ∷ o) l e = absurd (subst (λ (b : Bool). T (not b)) (sym e) tt)

edition-few : (order replicated : List ℕ) → pick (some order) 3 (pick (some replicated) 2 1) ≤ 3
edition-few [] [] = omega arith
edition-few [] (a ∷ l) = omega arith
edition-few (a ∷ l) replicated = omega arith

-- ---- the whole file

-- tests taken together otherwise
in_one : {A : Type 0} (a b c d e f g h i : Judged (Unit {0})) (m : Judged A)
    → ◌>>◌ (◌>>◌ a (◌>>◌ b c)) (◌>>◌ d (◌>>◌ e (◌>>◌ f (◌>>◌ g (◌>>◌ h (◌>>◌ i m))))))
    ≡ ◌>>◌ (◌>>◌ a (◌>>◌ b (◌>>◌ c (◌>>◌ d (◌>>◌ e (◌>>◌ f (◌>>◌ g (◌>>◌ h i)))))))) m
in_one a b c d e f g h i m = simp then-then

pub length-file : (r : Records) → length (file_of r) ≡ file_length r
unfolding file_of file_length steps_start header
length-file r = simp (length-append, length-u16s) (omega arith)

-- each step has a byte, and an outermost one is one of them
pub given-some : (g : Given) → 1 ≤ length (given_bytes g)
unfolding given_bytes step_bytes
given-some (known (plain (all_slice Ss))) = omega arith
given-some (known (plain (all_gather Gs))) = omega arith
given-some (known (plain (all_reduce L))) = omega arith
given-some (known (plain (all_to_all source target L))) = omega arith
given-some (known (plain (reduce_scatter Ss))) = omega arith
given-some (known (repeat count number)) = omega arith
given-some unknown = omega arith

outermost-few : (still : ℕ) (gs : List Given) → outermost_from still gs ≤ length (steps_bytes gs)
unfolding outermost_from steps_bytes
outermost-few n [] = omega arith
outermost-few zero (g ∷ gs) = omega (arith, outermost-few (inner_of g) gs, length-append (given_bytes g) (steps_bytes gs), given-some g)
outermost-few (suc n) (g ∷ gs) = omega (arith, outermost-few (inner_of g + n) gs, length-append (given_bytes g) (steps_bytes gs))

module _ (r : Records) (fits : Fits r) where
  abbrev file : List ℕ
  file = file_of r

  abbrev tail₄ : List ℕ
  tail₄ = sharding_bytes (edition_of r) r.start ++ steps_bytes r.steps

  abbrev tail₃ : List ℕ
  tail₃ = u16s_bytes r.sizes ++ tail₄

  abbrev tail₂ : List ℕ
  tail₂ = u16s_bytes r.order ++ tail₃

  abbrev tail₁ : List ℕ
  tail₁ = u16s_bytes r.mesh ++ tail₂

  header-shorts : Shorts (header r)
  unfolding header file_length steps_start
  header-shorts zero = omega (arith, edition-few r.order r.start.replicated)
  header-shorts (suc zero) = omega (arith, fits.short)
  header-shorts (suc (suc zero)) = omega (arith, fits.short)
  header-shorts (suc (suc (suc zero))) = omega (arith, fits.short, outermost-few 0 r.steps)
  header-shorts (suc (suc (suc (suc zero)))) = lit< tt
  header-shorts (suc (suc (suc (suc (suc zero))))) = omega (arith, fits.short)
  header-shorts (suc (suc (suc (suc (suc (suc zero)))))) = omega (arith, fits.short)
  header-shorts (suc (suc (suc (suc (suc (suc (suc zero))))))) = omega (arith, fits.short)
  header-shorts (suc (suc (suc (suc (suc (suc (suc (suc zero)))))))) = omega (arith, fits.short)
  header-shorts (suc (suc (suc (suc (suc (suc (suc (suc (suc i))))))))) = lit< tt

  whole : From 0 file (u16s_bytes (header r) ++ tail₁)
  unfolding file_of
  whole = from_all (file_of r)

  -- the numbers of the header
  field : (i : ℕ) → i < length (header r) → u16_at file (0 + 2 * i) ≡ get_or (header r) i 0
  field i h = number-from file 0 (header r) tail₁ header-shorts whole i h

  pub is-edition : u16_at file 0 ≡ edition_of r
  unfolding header
  is-edition = field 0 (lit< tt)

  is-axes : u16_at file 2 ≡ length r.mesh
  unfolding header
  is-axes = field 1 (lit< tt)

  is-rank : u16_at file 4 ≡ length r.sizes
  unfolding header
  is-rank = field 2 (lit< tt)

  is-count : u16_at file 6 ≡ outermost r.steps
  unfolding header
  is-count = field 3 (lit< tt)

  is-mesh-at : u16_at file 8 ≡ least_bytes
  unfolding header
  is-mesh-at = field 4 (lit< tt)

  is-tensor-at : u16_at file 10 ≡ tensor_start r
  unfolding header
  is-tensor-at = field 5 (lit< tt)

  is-sharding-at : u16_at file 12 ≡ sharding_start r
  unfolding header
  is-sharding-at = field 6 (lit< tt)

  is-steps-at : u16_at file 14 ≡ steps_start r
  unfolding header
  is-steps-at = field 7 (lit< tt)

  is-total : u16_at file 16 ≡ file_length r
  unfolding header
  is-total = field 8 (lit< tt)

  -- where the sections stand
  abbrev order_start : ℕ
  order_start = 18 + 2 * length r.mesh

  at-mesh : From 18 file tail₁
  unfolding header
  at-mesh = subst (λ (k : ℕ). From k file tail₁) (omega (arith, length-u16s (header r))) (from_next 0 file (u16s_bytes (header r)) tail₁ whole)

  at-order : From order_start file tail₂
  at-order = subst (λ (k : ℕ). From k file tail₂) (omega (arith, length-u16s r.mesh)) (from_next 18 file (u16s_bytes r.mesh) tail₂ at-mesh)

  at-tensor : From (tensor_start r) file tail₃
  at-tensor = subst (λ (k : ℕ). From k file tail₃) (omega (arith, length-u16s r.order)) (from_next order_start file (u16s_bytes r.order) tail₃ at-order)

  at-sharding : From (sharding_start r) file tail₄
  at-sharding = subst (λ (k : ℕ). From k file tail₄) (omega (arith, length-u16s r.sizes)) (from_next (tensor_start r) file (u16s_bytes r.sizes) tail₄ at-tensor)

  pub at-steps : From (steps_start r) file (steps_bytes r.steps)
  unfolding steps_start
  at-steps = from_next (sharding_start r) file (sharding_bytes (edition_of r) r.start) (steps_bytes r.steps) at-sharding

  header-from : judge_header file ≡ (do
    need (axes_allowed (length r.mesh)) 5
    need (rank_allowed (length r.sizes)) 5
    need (leb (outermost r.steps) most_steps) 5)
  unfolding judge_header_by
  header-from =
      let long : least_bytes ≤ file_length r = unfold file_length steps_start in omega arith in
      rw (
        length-file r,
        is_le least_bytes (file_length r) long,
        is_le (file_length r) most_bytes fits.short,
        is-edition,
        known-edition r.order r.start.replicated,
        is-total,
        is_eq (file_length r) (file_length r) refl,
        is-axes,
        is-rank,
        is-count,
      )

  abbrev front : Front
  front = record {
    mesh = r.mesh;
    order = order_of (devices r.mesh) r.order;
    sizes = r.sizes;
    start = r.start;
    next = steps_start r;
  }

  next-order : 18 + length (u16s_bytes r.mesh) ≡ order_start
  next-order = omega (arith, length-u16s r.mesh)

  next-tensor : order_start + length (u16s_bytes r.order) ≡ tensor_start r
  next-tensor = omega (arith, length-u16s r.order)

  next-sharding : tensor_start r + length (u16s_bytes r.sizes) ≡ sharding_start r
  next-sharding = omega (arith, length-u16s r.sizes)

  next-steps : sharding_start r + length (sharding_bytes (edition_of r) r.start) ≡ steps_start r
  unfolding steps_start
  next-steps = refl

  sharding-ranked : sharding_at (carries_replicated (edition_of r)) (length r.mesh) (length r.sizes) (sharding_start r) file (sharding_start r)
      ≡ ◌>>◌ (judge_counts (length r.mesh) r.start.dims) (◌>>◌ (judge_counts (length r.mesh) (r.start.unreduced ∷ r.start.replicated ∷ []))
      (accept (read r.start (sharding_start r + length (sharding_bytes (edition_of r) r.start)))))
  sharding-ranked =
      ap (λ (k : ℕ). sharding_at (carries_replicated (edition_of r)) (length r.mesh) k (sharding_start r) file (sharding_start r)) (sym fits.proper.dims_ranked)
      ∙ sharding-from file (length r.mesh) (edition_of r) (sharding_start r) r.start (steps_bytes r.steps) (first_edition r.order r.start.replicated) at-sharding

  front-from : judge_front file ≡ ◌>>◌ (judge_opening r) (accept front)
  unfolding judge_front_by mesh_and_table_at_by judge_opening judge_sharding
  front-from =
      rw (
        header-from,
        is-edition,
        is-axes,
        is-rank,
        is-mesh-at,
        is-tensor-at,
        is-sharding-at,
        is-steps-at,
        sizes-from file most_devices 10 11 18 r.mesh tail₂ fits.proper.mesh_shorts at-mesh,
        then-bind,
        next-order,
        order_from file (devices r.mesh) order_start r.order tail₃ (some r.start.replicated) fits.proper.order_shorts fits.order_all at-order,
        then-bind,
        next-tensor,
        sizes-from file most_words 12 13 (tensor_start r) r.sizes tail₄ fits.proper.sizes_shorts at-tensor,
        then-bind,
        next-sharding,
        bind-then,
        bind-then,
        then-bind,
        sharding-ranked,
        next-steps,
        bind-then,
        then-bind,
        is_eq (steps_start r) (steps_start r) refl,
        meaning-edition r.order r.start.replicated,
      )
      (in_one (need (axes_allowed (length r.mesh)) 5) (need (rank_allowed (length r.sizes)) 5) (need (leb (outermost r.steps) most_steps) 5)
      (judge_sizes most_devices 10 11 1 r.mesh) (judge_order (devices r.mesh) r.order) (judge_sizes most_words 12 13 1 r.sizes)
      (judge_counts (length r.mesh) r.start.dims) (judge_counts (length r.mesh) (r.start.unreduced ∷ r.start.replicated ∷ []))
      (judge_start r.mesh r.sizes r.start) (accept front))

  -- THE CHECK'S JUDGEMENT OF THE FILE IS THE JUDGEMENT OF THE RECORDS
  pub file_judged : judge (file_of r) ≡ judge_records r
  unfolding judge_by judge_records
  file_judged =
      let steps : List ℕ = steps_bytes r.steps in
      let read-there : outermost_at every_kind r.mesh r.sizes file 0 (outermost r.steps) 1 (steps_start r) r.start
      ≡ judged_by (outermost_further (steps_start r)) (outermost_at every_kind r.mesh r.sizes steps 0 (outermost r.steps) 1 0 r.start) =
      (let z : steps_start r ≡ steps_start r + 0 = omega arith in
      ap (λ (k : ℕ). outermost_at every_kind r.mesh r.sizes file 0 (outermost r.steps) 1 k r.start) z
      ∙ outermost-moved (steps_start r) file steps at-steps r.mesh r.sizes every_kind 0 (outermost r.steps) 1 0 r.start) in
      rw (front-from, then-bind, is-count, read-there, bind-by)
      (ap (◌>>◌ (judge_opening r)) (rw numbered (ends (outermost_at every_kind r.mesh r.sizes steps 0 (outermost r.steps) 1 0 r.start) refl)))
    where
      numbered : step_numbered (outermost_at every_kind r.mesh r.sizes (steps_bytes r.steps) 0 (outermost r.steps) 1 0 r.start)
          ≡ outermost_at every_kind r.mesh r.sizes (steps_bytes r.steps) 0 (outermost r.steps) 1 0 r.start
      numbered =
          all-numbered (1 + (length (steps_bytes r.steps) - 0)) _ (unfold file_length in omega (arith, fits.short))
          (outermost-within r.mesh r.sizes (steps_bytes r.steps) every_kind 0 (outermost r.steps) 1 0 r.start (omega arith))

      plan_of : Outermost → Plan
      plan_of o = record {
        mesh = r.mesh;
        order = order_of (devices r.mesh) r.order;
        sizes = r.sizes;
        start = r.start;
        records = o.records;
        steps = o.steps;
        runs = o.runs;
      }

      -- all bytes are read
      ends : (j : Judged Outermost) → outermost_at every_kind r.mesh r.sizes (steps_bytes r.steps) 0 (outermost r.steps) 1 0 r.start ≡ j
          → ◌>>=◌ j (λ o. ◌>>◌ (need (eqb (steps_start r + o.next) (length file)) 9) (accept (plan_of o))) ≡ ◌>>=◌ j (λ o. accept (plan_of o))
      ends (refuse n k) e = refl
      ends (accept o) e =
          let all : o.next ≡ length (steps_bytes r.steps) =
          (all-given r.mesh r.sizes (steps_bytes r.steps) every_kind 0 1 0 r.start r.steps o fits.proper.steps_ranked (from_all (steps_bytes r.steps)) e).1 in
          let last : steps_start r + o.next ≡ length file = ap (λ (k : ℕ). steps_start r + k) all ∙ from-length (steps_start r) file (steps_bytes r.steps) at-steps in
          rw (is_eq (steps_start r + o.next) (length file) last) refl
