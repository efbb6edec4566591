-- RECORDS THAT THE WRITER'S JUDGEMENT ACCEPTS CAN BE WRITTEN (`accepted-encodable`): every list that passes 8 has no more axes than there are places. Those of
-- a call are what every call's are by their form (`accepted-proper`). Assumes nothing.
use Prim.Native.Nat.{ℕ, zero, suc, ◌+◌, ◌*◌, ◌≤◌}
use mathlib.Core.Bool.{Bool, true, false}
use mathlib.Core.Path.{◌≡◌, refl, sym, ap, subst}
use mathlib.Core.List.{List, [], ◌∷◌, ◌++◌, map}
use native.Mathlib.Omega.{arith}
use lib.Dec.{leb, leb→le, eqb, lit≤}
use lib.ListN.{length, get_or, length-map}
use lib.Seq.{length-take-le}
use Rattle.std.specs.Prelude.{Result, Ok, Err}
use Rattle.rules.specs.Lists.{tab, pick}
use Rattle.rules.specs.Limits.{most_axes, most_devices, most_dims, most_words, most_steps, every_kind}
use Rattle.rules.specs.Mesh.{devices}
use Rattle.rules.specs.Refusals.{accept}
use Rattle.rules.specs.PlanFile.{axes_allowed, rank_allowed, judge_sizes, kind_of, Record, repeat, Plan, outermost_at}
use Rattle.types.specs.declared.DimLists.{DimLists}
use Rattle.types.specs.declared.Sharding as code
use Rattle.types.specs.declared.Kind.{Kind}
use Rattle.types.specs.declared.Kind.TheVariants.{AllSlice, AllGather, AllReduce, AllToAll, ReduceScatter}
use Rattle.types.specs.declared.Reason.{Reason}
use Rattle.laws.proofs.Lists.{T_and, get_or-tab, both-length}
use Rattle.laws.proofs.Judging.{need-inv, then-inv, bind_inv}
use Rattle.laws.proofs.Accepted.{sizes-facts}
use Rattle.records.specs.Records.{Given, known, unknown, Records, outermost, steps_bytes}
use Rattle.records.specs.Writing.{judge_sharding, judge_order, judge_opening, step_numbered, judge_records}
use Rattle.records.specs.Forms.{list_given, dims_given, record_bytes, lists_record, step_if_kind, given_kind, given_at, record_count, steps_given, records_given}
use Rattle.records.specs.RoundTrip.{Shorts, Ranked, AllRanked, ShortGiven, AllShort, Proper}
use Rattle.records.proofs.Places.{from_all}
use Rattle.records.proofs.Given.{all-given}
use Rattle.records.proofs.Numbers.{numbered-on, outermost-few}
use Rattle.records.proofs.Readback.{order-passed}
use Rattle.records.proofs.Short.{counts-short, outermost-short}
use Rattle.records.proofs.Accepting.{sharding-facts}
use Rattle.encode.specs.Putting.{ShortSteps, Encodable}
use Rattle.encode.proofs.Counting.{given-length}
use Rattle.types.specs.Types.{kind_from}

-- ---- records have a list for each dimension

module _ (rank : ℕ) (few : rank ≤ most_dims) where
  dims_ranked : (ls : DimLists) → length ls.0 ≡ most_dims → length (dims_given rank ls) ≡ rank
  unfolding dims_given
  dims_ranked ls e = length-take-le rank (map list_given ls.0) (omega (arith, length-map ls.0 list_given, e, few))

  kind-ranked : (k : Result Kind Reason) (bytes : List ℕ) (at : ℕ) → Ranked rank (given_kind rank (step_if_kind k bytes at))
  kind-ranked (Ok AllSlice) bytes at = dims_ranked (lists_record bytes at) refl
  kind-ranked (Ok AllGather) bytes at = dims_ranked (lists_record bytes at) refl
  kind-ranked (Ok AllReduce) bytes at = tt
  kind-ranked (Ok AllToAll) bytes at = tt
  kind-ranked (Ok ReduceScatter) bytes at = dims_ranked (lists_record bytes at) refl
  kind-ranked (Err reason) bytes at = tt

  record-ranked : (bytes : List ℕ) (at : ℕ) → Ranked rank (given_at rank bytes at)
  unfolding given_at
  record-ranked bytes at = go (eqb (get_or bytes at 0) 9)
    where
      go : (b : Bool)
          → Ranked rank (pick b (known (repeat (get_or bytes (at + 1) 0) (get_or bytes (at + 2) 0))) (given_kind rank (step_if_kind (kind_from (kind_of (get_or bytes at 0))) bytes at)))
      go true = tt
      go false = kind-ranked (kind_from (kind_of (get_or bytes at 0))) bytes at

  ranked-append : (l m : List Given) → AllRanked rank l → AllRanked rank m → AllRanked rank (l ++ m)
  ranked-append [] m h g = g
  ranked-append (r ∷ l) m h g = (h.0, ranked-append l m h.1 g)

  tab-ranked : (n : ℕ) (f : ℕ → Given) → ((i : ℕ) → Ranked rank (f i)) → AllRanked rank (tab n f)
  tab-ranked zero f h = tt
  tab-ranked (suc n) f h = ranked-append (tab n f) (f n ∷ []) (tab-ranked n f h) (h n, tt)

  pub given-ranked : (bytes : List ℕ) → AllRanked rank (steps_given rank bytes)
  unfolding steps_given
  given-ranked bytes = tab-ranked (record_count bytes) (λ i. given_at rank bytes (record_bytes * i)) (λ i. record-ranked bytes (record_bytes * i))

-- ---- the judgement

known-short : (rs : List Record) (i : ℕ) → AllShort rs → ShortGiven (get_or (map known rs) i unknown)
known-short [] i h = tt
known-short (r ∷ rs) zero h = h.0
known-short (r ∷ rs) (suc i) h = known-short rs i h.1

given-short : (rank : ℕ) (bytes : List ℕ) (rs : List Record) → steps_given rank bytes ≡ map known rs → AllShort rs → ShortSteps rank bytes
unfolding steps_given
given-short rank bytes rs e h i less =
    subst ShortGiven (get_or-tab (record_count bytes) i (λ j. given_at rank bytes (record_bytes * j)) unknown less)
    (subst (λ (l : List Given). ShortGiven (get_or l i unknown)) (sym e) (known-short rs i h))

record Opened (r : Records) : Type 0 where
  axes : length r.mesh ≤ most_axes
  rank : length r.sizes ≤ most_dims
  few : outermost r.steps ≤ most_steps
  order : length r.order ≤ most_devices
  sharding : judge_sharding r.mesh r.sizes r.start ≡ accept tt

order-few : (n : ℕ) (order : List ℕ) → n ≤ most_devices → judge_order n order ≡ accept tt → length order ≤ most_devices
order-few n [] h e = omega arith
order-few n (a ∷ l) h e = omega (arith, (order-passed n (a ∷ l) e).0 tt, h)

opened : (r : Records) → judge_opening r ≡ accept tt → Opened r
unfolding judge_opening
opened r e =
    let a = need-inv 0 (axes_allowed (length r.mesh)) 5 _ tt e in
    let b = need-inv 0 (rank_allowed (length r.sizes)) 5 _ tt a.1 in
    let c = need-inv 0 (leb (outermost r.steps) most_steps) 5 _ tt b.1 in
    let m = then-inv (judge_sizes most_devices 10 11 1 r.mesh) _ tt c.1 in
    let o = then-inv (judge_order (devices r.mesh) r.order) _ tt m.1 in
    let t = then-inv (judge_sizes most_words 12 13 1 r.sizes) _ tt o.1 in
    let d = sizes-facts most_devices 10 11 1 r.mesh (lit≤ tt) (lit≤ tt) m.0.1 in
    record {
      axes = leb→le (length r.mesh) most_axes (T_and (leb 1 (length r.mesh)) (leb (length r.mesh) most_axes) a.0).1;
      rank = leb→le (length r.sizes) most_dims (T_and (leb 1 (length r.sizes)) (leb (length r.sizes) most_dims) b.0).1;
      few = leb→le (outermost r.steps) most_steps c.0;
      order = order-few (devices r.mesh) r.order (omega (arith, d.few)) o.0.1;
      sharding = t.1;
    }

-- ACCEPTED RECORDS CAN BE WRITTEN
pub accepted-encodable : (mesh order sizes : List ℕ) (start : code.Sharding) (bytes : List ℕ) (p : Plan)
    → judge_records (records_given mesh order sizes start bytes) ≡ accept p
    → Encodable mesh order sizes start bytes × (outermost (steps_given (length sizes) bytes) ≤ most_steps)
unfolding judge_records
accepted-encodable mesh order sizes start bytes p e =
    let r : Records = records_given mesh order sizes start bytes in
    let w = then-inv (judge_opening r) _ p e in
    let ts = bind_inv (step_numbered (outermost_at every_kind mesh sizes (steps_bytes r.steps) 0 (outermost r.steps) 1 0 r.start)) _ p w.1 in
    let taken = numbered-on (outermost_at every_kind mesh sizes (steps_bytes r.steps) 0 (outermost r.steps) 1 0 r.start) ts.1 in
    let o : Opened r = opened r w.0.1 in
    let s = sharding-facts mesh sizes r.start o.sharding in
    let others = counts-short (length mesh) (r.start.unreduced ∷ r.start.replicated ∷ []) o.axes s.others in
    let g : r.steps ≡ map known ts.0.records =
    (all-given mesh sizes (steps_bytes r.steps) every_kind 0 1 0 r.start r.steps ts.0 (given-ranked (length sizes) o.rank bytes)
    (from_all (steps_bytes r.steps)) taken).0 in
    let short = outermost-short mesh sizes (steps_bytes r.steps) o.axes every_kind 0 (outermost r.steps) 1 0 r.start ts.0 taken in
    let few = outermost-few mesh sizes (steps_bytes r.steps) every_kind (outermost r.steps) 1 0 r.start ts.0 taken in (
      record {
        axes = o.axes;
        devices = o.order;
        rank = o.rank;
        records = omega (arith, given-length (length sizes) bytes, few, ap length g, length-map ts.0.records known);
        short_start = record { dims = counts-short (length mesh) r.start.dims o.axes s.counts; unreduced = others 0; replicated = others 1 };
        short_steps = given-short (length sizes) bytes ts.0.records g short;
      },
      o.few,
    )

-- AND ARE PROPER, where their sizes and device numbers have 16 bits
pub accepted-proper : (mesh order sizes : List ℕ) (start : code.Sharding) (bytes : List ℕ) → Shorts mesh → Shorts order → Shorts sizes → (p : Plan)
    → judge_records (records_given mesh order sizes start bytes) ≡ accept p → Proper (records_given mesh order sizes start bytes)
unfolding judge_records
accepted-proper mesh order sizes start bytes m d t p e =
    let r : Records = records_given mesh order sizes start bytes in
    let o : Opened r = opened r (then-inv (judge_opening r) _ p e).0.1 in
    let s = sharding-facts mesh sizes r.start o.sharding in
    record {
      mesh_shorts = m;
      order_shorts = d;
      sizes_shorts = t;
      dims_ranked = sym (both-length _ sizes r.start.dims s.is.divides);
      steps_ranked = given-ranked (length sizes) o.rank bytes;
    }
