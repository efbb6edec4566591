-- The bytes of step records stand for these records (`steps-again`), wherever each record has a list for each dimension and no more axes than places; so
-- what is read of an accepted file stands for its records (`read_again`). Assumes nothing.
use Prim.Native.Nat.{ℕ, zero, suc, ◌+◌, ◌*◌, ◌/◌, ◌≤◌, ◌<◌}
use mathlib.Core.Path.{◌≡◌, refl, sym, ap, ◌∙◌, subst}
use mathlib.Core.List.{List, [], ◌∷◌, ◌++◌, map}
use native.Mathlib.Omega.{arith}
use lib.ListN.{length, get_or, drop, length-append, length-map}
use lib.Seq.{drop-nil, drop-append-add, get_or-drop, ext_get_or}
use lib.Arith.{digits_div}
use lib.Dec.{eqb, lit<}
use Rattle.std.specs.Prelude.{Some, Result, Ok, Err}
use Rattle.rules.specs.Lists.{pick, tab, flat, In}
use Rattle.rules.specs.Sharding.{Sharding, varying, IsSharding}
use Rattle.rules.specs.Refusals.{accept}
use Rattle.rules.specs.Limits.{most_axes, most_dims, every_kind}
use Rattle.rules.specs.Collectives.{all_slice, all_gather, all_reduce, all_to_all, reduce_scatter}
use Rattle.rules.specs.PlanFile.{kind_of, Record, plain, repeat, step_count, outermost_at, judge_front, Plan, judge, judge_by}
use Rattle.types.specs.Types.{kind_from, list_from, lists_from, sharding_from}
use Rattle.types.specs.declared.Kind.{Kind}
use Rattle.types.specs.declared.Kind.TheVariants.{AllSlice, AllGather, AllReduce, AllToAll, ReduceScatter}
use Rattle.types.specs.declared.Reason.{Reason}
use Rattle.types.specs.declared.Step.TheVariants as step
use Rattle.laws.proofs.Lists.{length-tab, get_or-tab, in_left, in_right, at-flat, distinct-split, distinct-at, few-distinct}
use Rattle.laws.proofs.Judging.{accept-inj, need-inv, bind_inv}
use Rattle.laws.proofs.Accepted.{AcceptedPlan, accepted, front-accepted}
use Rattle.types.proofs.Types.{list-axes}
use Rattle.records.specs.Records.{Given, known, unknown, records_of}
use Rattle.records.specs.Forms.{
  list_given,
  dims_given,
  sharding_given,
  record_bytes,
  axis_at,
  list_record,
  lists_record,
  step_of_kind,
  step_if_kind,
  given_kind,
  given_at,
  record_count,
  steps_given,
  records_given,
  record_of,
  records_bytes,
}
use Rattle.records.specs.RoundTrip.{Ranked, AllRanked, ShortLists, ShortSharding, ShortGiven, AllShort}
use Rattle.records.specs.Reading.{order_read}
use Rattle.records.proofs.Lists.{is_le}
use Rattle.records.proofs.Short.{outermost-short}
use Rattle.records.proofs.Again.{rank_is, pass-ranked}

-- ---- lists in their places

pub list-again : (l : List ℕ) → length l ≤ most_axes → list_given (list_from l) ≡ l
unfolding list_given list_from
list-again l h = rw (is_le (length l) most_axes h) (unfold list_from in list-axes l h)

dims-whole : (ls : List (List ℕ)) → length ls ≤ most_dims → ShortLists ls → dims_given (length ls) (lists_from ls) ≡ ls
unfolding dims_given lists_from
dims-whole [] h s = refl
dims-whole (a ∷ []) h s = rw (list-again a (s 0)) refl
dims-whole (a ∷ b ∷ []) h s = rw (list-again a (s 0), list-again b (s 1)) refl
dims-whole (a ∷ b ∷ c ∷ []) h s = rw (list-again a (s 0), list-again b (s 1), list-again c (s 2)) refl
dims-whole (a ∷ b ∷ c ∷ d ∷ []) h s = rw (list-again a (s 0), list-again b (s 1), list-again c (s 2), list-again d (s 3)) refl
dims-whole (a ∷ b ∷ c ∷ d ∷ e ∷ ls) h s = absurd (omega (arith, h))

pub dims-again : (rank : ℕ) (ls : List (List ℕ)) → length ls ≡ rank → rank ≤ most_dims → ShortLists ls → dims_given rank (lists_from ls) ≡ ls
dims-again rank ls e few short = subst (λ (n : ℕ). dims_given n (lists_from ls) ≡ ls) e (dims-whole ls (omega (arith, e, few)) short)

pub sharding-again : (rank : ℕ) (s : Sharding) → length s.dims ≡ rank → rank ≤ most_dims → ShortSharding s → sharding_given rank (sharding_from s) ≡ s
sharding-again rank s e few short = λ i. record {
  dims = dims-again rank s.dims e few short.dims i;
  unreduced = list-again s.unreduced short.unreduced i;
  replicated = list-again s.replicated short.replicated i;
}

-- ---- one record

pub record-length : (g : Record) → length (record_of g) ≡ record_bytes
unfolding record_of
record-length (plain (all_slice Ss)) = refl
record-length (plain (all_gather Gs)) = refl
record-length (plain (all_reduce L)) = refl
record-length (plain (all_to_all source target L)) = refl
record-length (plain (reduce_scatter Ss)) = refl
record-length (repeat count number) = refl

-- it is read from the bytes at its place on
module _ (bytes : List ℕ) (at : ℕ) where
  byte-from : (i k : ℕ) → at + i ≡ k → get_or bytes k 0 ≡ get_or (drop at bytes) i 0
  byte-from i k e = ap (λ (j : ℕ). get_or bytes j 0) (sym e) ∙ sym (get_or-drop at bytes i 0)

  axis-from : (i k : ℕ) → at + i ≡ k → axis_at bytes k ≡ axis_at (drop at bytes) i
  axis-from i k e = λ z. record { 0 = byte-from i k e z }

  list-from : (j : ℕ) → list_record bytes at j ≡ list_record (drop at bytes) 0 j
  list-from j = λ z. record {
    count = byte-from (3 + j) (at + 3 + j) (omega arith) z;
    axes = axis-from (8 + 6 * j) (at + 8 + 6 * j) (omega arith) z
        ∷ axis-from (8 + 6 * j + 1) (at + 8 + 6 * j + 1) (omega arith) z
        ∷ axis-from (8 + 6 * j + 2) (at + 8 + 6 * j + 2) (omega arith) z
        ∷ axis-from (8 + 6 * j + 3) (at + 8 + 6 * j + 3) (omega arith) z
        ∷ axis-from (8 + 6 * j + 4) (at + 8 + 6 * j + 4) (omega arith) z
        ∷ axis-from (8 + 6 * j + 5) (at + 8 + 6 * j + 5) (omega arith) z
        ∷ [];
    align = [];
  }

  lists-from : lists_record bytes at ≡ lists_record (drop at bytes) 0
  lists-from = λ z. record { 0 = list-from 0 z ∷ list-from 1 z ∷ list-from 2 z ∷ list-from 3 z ∷ [] }

  kind-from : (kind : Kind) → step_of_kind kind bytes at ≡ step_of_kind kind (drop at bytes) 0
  kind-from AllSlice = ap step.AllSlice lists-from
  kind-from AllGather = ap step.AllGather lists-from
  kind-from AllReduce = ap step.AllReduce (list-from 4)
  kind-from AllToAll =
      λ z. step.AllToAll (record { 0 = byte-from 1 (at + 1) refl z }) (record { 0 = byte-from 2 (at + 2) refl z }) (list-from 4 z)
  kind-from ReduceScatter = ap step.ReduceScatter lists-from

  step-from : (kind : Result Kind Reason) → step_if_kind kind bytes at ≡ step_if_kind kind (drop at bytes) 0
  step-from (Ok kind) = ap Some (kind-from kind)
  step-from (Err reason) = refl

  record-from : (rank : ℕ) → given_at rank bytes at ≡ given_at rank (drop at bytes) 0
  unfolding given_at
  record-from rank =
      let first : get_or bytes at 0 ≡ get_or (drop at bytes) 0 0 = byte-from 0 at (omega arith) in
      let second : get_or bytes (at + 1) 0 ≡ get_or (drop at bytes) 1 0 = byte-from 1 (at + 1) refl in
      let third : get_or bytes (at + 2) 0 ≡ get_or (drop at bytes) 2 0 = byte-from 2 (at + 2) refl in
      λ z. pick (eqb (first z) 9) (known (repeat (second z) (third z))) (given_kind rank (step-from (kind_from (kind_of (first z))) z))

module _ (rank : ℕ) (few : rank ≤ most_dims) where
  record-again : (g : Record) (rest : List ℕ) → Ranked rank (known g) → ShortGiven (known g) → given_at rank (record_of g ++ rest) 0 ≡ known g
  unfolding given_at record_of
  record-again (plain (all_slice Ss)) rest r s =
      ap (λ (ls : List (List ℕ)). known (plain (all_slice ls))) (unfold lists_from in dims-again rank Ss r few s)
  record-again (plain (all_gather Gs)) rest r s =
      ap (λ (ls : List (List ℕ)). known (plain (all_gather ls))) (unfold lists_from in dims-again rank Gs r few s)
  record-again (plain (all_reduce L)) rest r s = ap (λ (l : List ℕ). known (plain (all_reduce l))) (unfold list_from in list-again L s)
  record-again (plain (all_to_all source target L)) rest r s =
      ap (λ (l : List ℕ). known (plain (all_to_all source target l))) (unfold list_from in list-again L s)
  record-again (plain (reduce_scatter Ss)) rest r s =
      ap (λ (ls : List (List ℕ)). known (plain (reduce_scatter ls))) (unfold lists_from in dims-again rank Ss r few s)
  record-again (repeat count number) rest r s = refl

-- ---- all records

pub records-length : (gs : List Record) → length (records_bytes gs) ≡ record_bytes * length gs
unfolding records_bytes
records-length [] = refl
records-length (g ∷ gs) = omega (arith, length-append (record_of g) (records_bytes gs), record-length g, records-length gs)

records-count : (gs : List Record) → record_count (records_bytes gs) ≡ length gs
records-count gs =
    let e : length (records_bytes gs) ≡ length gs * 38 + 0 = omega (arith, records-length gs) in
    ap (λ (k : ℕ). k / 38) e ∙ digits_div (length gs) (lit< tt)

records-drop : (gs : List Record) (i : ℕ) → drop (record_bytes * i) (records_bytes gs) ≡ records_bytes (drop i gs)
unfolding records_bytes
records-drop gs zero = refl
records-drop [] (suc i) = drop-nil (record_bytes * suc i)
records-drop (g ∷ gs) (suc i) =
    let e : record_bytes * suc i ≡ length (record_of g) + record_bytes * i = omega (arith, record-length g) in
    ap (λ (k : ℕ). drop k (record_of g ++ records_bytes gs)) e ∙ drop-append-add (record_of g) (records_bytes gs) (record_bytes * i) ∙ records-drop gs i

module _ (rank : ℕ) (few : rank ≤ most_dims) where
  entry-again : (gs : List Record) (i : ℕ) → i < length gs → AllRanked rank (map known gs) → AllShort gs
      → given_at rank (records_bytes (drop i gs)) 0 ≡ get_or (map known gs) i unknown
  unfolding records_bytes
  entry-again [] i h r s = absurd (omega (arith, h))
  entry-again (g ∷ gs) zero h r s = record-again rank few g (records_bytes gs) r.0 s.0
  entry-again (g ∷ gs) (suc i) h r s = entry-again gs i (omega (arith, h)) r.1 s.1

  -- THE BYTES OF RECORDS STAND FOR THESE RECORDS
  pub steps-again : (gs : List Record) → AllRanked rank (map known gs) → AllShort gs → steps_given rank (records_bytes gs) ≡ map known gs
  unfolding steps_given
  steps-again gs ranked short =
      let f : ℕ → Given = λ i. given_at rank (records_bytes gs) (record_bytes * i) in
      let n : ℕ = record_count (records_bytes gs) in
      let many : length (tab n f) ≡ length (map known gs) = length-tab n f ∙ records-count gs ∙ sym (length-map gs known) in
      ext_get_or unknown (tab n f) (map known gs) many (λ i h.
      (let less : i < n = omega (arith, h, length-tab n f) in
      get_or-tab n i f unknown less ∙ record-from (records_bytes gs) (record_bytes * i) rank
      ∙ ap (λ (l : List ℕ). given_at rank l 0) (records-drop gs i) ∙ entry-again gs i (omega (arith, less, records-count gs)) ranked short))

-- ---- an accepted plan

pub sharding-short : (mesh sizes : List ℕ) (s : Sharding) → length mesh ≤ most_axes → IsSharding mesh sizes s → ShortSharding s
sharding-short mesh sizes s h is =
    let n : ℕ = length mesh in
    let x = distinct-split (varying s) s.replicated is.once in
    let y = distinct-split (flat s.dims) s.unreduced x.0 in
    let below : (a : ℕ) → In a (varying s) → a < n = λ a i. is.of_mesh a (in_left a (varying s) s.replicated i) in
    record {
      dims = λ d. omega (
        arith,
        few-distinct n (get_or s.dims d []) (distinct-at s.dims d y.0)
            (λ a i. below a (in_left a (flat s.dims) s.unreduced (at-flat a s.dims d i))),
        h,
      );
      unreduced = omega (arith, few-distinct n s.unreduced y.1 (λ a i. below a (in_right a (flat s.dims) s.unreduced i)), h);
      replicated = omega (arith, few-distinct n s.replicated x.1 (λ a i. is.of_mesh a (in_right a (varying s) s.replicated i)), h);
    }

module _ (file : List ℕ) (p : Plan) (e : judge file ≡ accept p) where
  pub records-short : AllShort p.records
  unfolding judge_by
  records-short =
      let f = bind_inv (judge_front file) _ p e in
      let ts = bind_inv (outermost_at every_kind f.0.mesh f.0.sizes file 0 (step_count file) 1 f.0.next f.0.start) _ p f.2 in
      let z = need-inv 0 (eqb ts.0.next (length file)) 9 _ p ts.2 in
      subst (λ (q : Plan). AllShort q.records) (accept-inj z.1)
      (outermost-short f.0.mesh f.0.sizes file (front-accepted file f.0 f.1).within.axes_few every_kind 0 (step_count file) 1 f.0.next f.0.start
      ts.0 ts.1)

  -- WHAT IS READ OF AN ACCEPTED FILE STANDS FOR ITS RECORDS
  pub read_again : records_given p.mesh (order_read p) p.sizes (sharding_from p.start) (records_bytes p.records) ≡ records_of p
  read_again =
      let a : AcceptedPlan p = accepted file p e in
      let rank : ℕ = length p.sizes in
      let ranked : length p.start.dims ≡ rank = sym (rank_is p.mesh p.sizes a.within.sizes_pos p.start a.start_is) in
      let start : sharding_given rank (sharding_from p.start) ≡ p.start =
      sharding-again rank p.start ranked a.within.rank_few (sharding-short p.mesh p.sizes p.start a.within.axes_few a.start_is) in
      let steps : steps_given rank (records_bytes p.records) ≡ map known p.records =
      steps-again rank a.within.rank_few p.records
      (pass-ranked p.mesh p.sizes a.within.sizes_pos p.start p.records a.start_is a.pass_fine) records-short in
      λ i. record { mesh = p.mesh; order = order_read p; sizes = p.sizes; start = start i; steps = steps i }
