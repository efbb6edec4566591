-- An accepted file, read and written again, comes out byte for byte (`written_again`), and the writer takes its records (`taken-again`). Assumes nothing.
use Prim.Native.Nat.{ℕ, zero, suc, ◌+◌, ◌*◌, ◌/◌, ◌≤◌, ◌<◌}
use mathlib.Core.Path.{◌≡◌, refl, sym, ap, ◌∙◌, subst}
use mathlib.Core.Logic.{⊎_elim}
use mathlib.Core.Bool.{Bool, true, false, not, ◌&&◌}
use mathlib.Core.List.{List, [], ◌∷◌, ◌++◌, map, append_assoc, append-nil}
use native.Mathlib.Omega.{arith}
use lib.ListN.{length, get_or, drop, length-append, get_or-eq_default}
use lib.Seq.{drop-length}
use lib.Dec.{T, T_not, ltb, leb, eqb, ltb→lt, nltb→le, leb→le, eqb→eq, eqb_refl, lit<}
use Rattle.rules.specs.Lists.{tab, pick}
use Rattle.rules.specs.Mesh.{span, devices, plain_order}
use Rattle.rules.specs.Sharding.{divisible, Sharding, shard_sizes, IsSharding}
use Rattle.rules.specs.Collectives.{Step, all_slice, all_gather, all_reduce, all_to_all, reduce_scatter, after}
use Rattle.rules.specs.Limits.{present, most_bytes, least_bytes, most_devices, most_words, most_depth, every_kind}
use Rattle.rules.specs.Refusals.{accept}
use Rattle.rules.specs.PlanFile.{
  Read,
  u16_at,
  edition,
  edition_known,
  axis_count,
  rank_count,
  step_count,
  mesh_offset,
  tensor_offset,
  sharding_offset,
  steps_offset,
  total_length,
  judge_header,
  judge_header_by,
  all_below,
  fresh,
  same,
  judge_sizes,
  sizes_at,
  rearranges,
  order_allowed,
  carries_order,
  order_at,
  MeshAndTable,
  mesh_and_table_at,
  mesh_and_table_at_by,
  carries_replicated,
  sharding_at,
  judge_start,
  some,
  one_meaning,
  is_tail,
  Record,
  plain,
  repeat,
  item_at,
  Outermost,
  outermost_at,
  Front,
  judge_front,
  judge_front_by,
  Plan,
  judge,
  judge_by,
}
use Rattle.laws.specs.Demands.{one_pass}
use Rattle.laws.proofs.Lists.{T?, T_and, n_t→false, T→true, length-tab, get_or-tab, both-length, length-each}
use Rattle.laws.proofs.Judging.{accept-inj, need-inv, then-inv, bind_inv}
use Rattle.laws.proofs.Steps.{AcceptedStep, after-sharding}
use Rattle.laws.proofs.Turns.{Fine}
use Rattle.laws.proofs.Repeats.{read_by, outermost-steps}
use Rattle.laws.proofs.Accepted.{AcceptedPlan, accepted}
use Rattle.records.specs.Records.{known, Records, records_of, outermost, outermost_from, u16s_bytes, edition_of, sharding_bytes, steps_bytes, steps_start, file_length, header, file_of}
use Rattle.records.specs.Writing.{judge_records, write_of}
use Rattle.records.specs.RoundTrip.{Shorts, Bytes, RankedStep, AllRanked, Fits, WrittenAgain, OneFile}
use Rattle.records.proofs.Lists.{is_le}
use Rattle.records.proofs.Given.{outermost-counted}
use Rattle.records.proofs.Written.{length-u16s, length-file, file_judged}
use Rattle.records.proofs.Spelled.{Spells, join, nothing, numbers-spell, sharding-spells, steps-spell, item-spells}

-- ---- the order as a record gives it

abbrev pub order_given : (devices : ℕ) → List ℕ → List ℕ
order_given n order = pick (same order (plain_order n)) [] order

same_refl : (l : List ℕ) → same l l ≡ true
unfolding same
same_refl [] = refl
same_refl (a ∷ l) = rw (T→true (eqb a a) (eqb_refl a), same_refl l) refl

pub plain-given : (n : ℕ) → order_given n (plain_order n) ≡ []
plain-given n = ap (λ (b : Bool). pick b [] (plain_order n)) (same_refl (plain_order n))

-- an order that is allowed is given, of as many numbers as there are devices
pub allowed-given : (n : ℕ) (order : List ℕ) → T (order_allowed n order) → (order_given n order ≡ order) × (length order ≡ n) × (some order ≡ true)
unfolding order_allowed rearranges
allowed-given n order t =
    let p : T (rearranges n order) × T (not (same order (plain_order n))) = T_and (rearranges n order) (not (same order (plain_order n))) t in
    let q : T (eqb (length order) n) × T (all_below n order && fresh [] order) = T_and (eqb (length order) n) (all_below n order && fresh [] order) p.0 in
    let many : length order ≡ n = eqb→eq (length order) n q.0 in
    let other : same order (plain_order n) ≡ false = n_t→false (same order (plain_order n)) (T_not (same order (plain_order n)) p.1) in
    (ap (λ (b : Bool). pick b [] order) other, many, names order many other)
  where
    names : (l : List ℕ) → length l ≡ n → same l (plain_order n) ≡ false → some l ≡ true
    names [] m o =
        let z : same [] (plain_order 0) ≡ false = subst (λ (k : ℕ). same [] (plain_order k) ≡ false) (sym m) o in
        absurd (subst T (sym (same_refl []) ∙ z) tt)
    names (a ∷ l) m o = refl

-- ---- the edition

edition-again : (e : ℕ) (o v : List ℕ) → 1 ≤ e → e ≤ 3 → some o ≡ leb 3 e → (leb 2 e ≡ false → v ≡ []) → T (one_meaning e v)
    → pick (some o) 3 (pick (some v) 2 1) ≡ e
edition-again zero o v l m x y z = absurd (omega arith)
edition-again (suc zero) o v l m x y z = rw (x, y refl) refl
edition-again (suc (suc zero)) o [] l m x y z = absurd z
edition-again (suc (suc zero)) o (a ∷ v) l m x y z = rw x refl
edition-again (suc (suc (suc zero))) o v l m x y z = rw x refl
edition-again (suc (suc (suc (suc e)))) o v l m x y z = absurd (omega arith)

-- ---- steps have a list for each dimension

module _ (mesh sizes : List ℕ) (pos : (a : ℕ) → 0 < get_or mesh a 1) where
  pub rank_is : (s : Sharding) → IsSharding mesh sizes s → length sizes ≡ length s.dims
  rank_is s h = both-length _ sizes s.dims h.divides

  slices-ranked : (Ss : List (List ℕ)) (s : Sharding) → IsSharding mesh sizes s → T (divisible mesh (shard_sizes mesh sizes s.dims) Ss) → length Ss ≡ length sizes
  slices-ranked Ss s h d =
      sym (both-length _ (shard_sizes mesh sizes s.dims) Ss d) ∙ length-each (λ n d. n / span mesh d) sizes s.dims (rank_is s h) ∙ sym (rank_is s h)

  step-ranked : (t : Step) (s : Sharding) → IsSharding mesh sizes s → AcceptedStep mesh sizes t s → RankedStep (length sizes) t
  step-ranked (all_slice Ss) s h f = slices-ranked Ss s h f.by_kind.divides
  step-ranked (all_gather Gs) s h f = sym (both-length is_tail s.dims Gs f.by_kind.tailed) ∙ sym (rank_is s h)
  step-ranked (all_reduce L) s h f = tt
  step-ranked (all_to_all source target L) s h f = tt
  step-ranked (reduce_scatter Ss) s h f = slices-ranked Ss s h f.by_kind.divides

  pub pass-ranked : (s : Sharding) (records : List Record) → IsSharding mesh sizes s → Fine mesh sizes s (one_pass records) → AllRanked (length sizes) (map known records)
  pass-ranked s [] h f = tt
  pass-ranked s (plain t ∷ records) h f =
      (step-ranked t s h f.0, pass-ranked (after t s) records (after-sharding mesh sizes pos t s h f.0) f.1)
  pass-ranked s (repeat count number ∷ records) h f = (tt, pass-ranked s records h f)

-- ---- the sections

module _ (file : List ℕ) (bytes : Bytes file) where
  number_short : (at : ℕ) → u16_at file at < 65536
  unfolding u16_at
  number_short at = omega (arith, bytes at, bytes (at + 1))

  numbers-short : (count : ℕ) (at : ℕ → ℕ) → Shorts (tab count (λ i. u16_at file (at i)))
  numbers-short count at i =
      let f : ℕ → ℕ = λ j. u16_at file (at j) in
      ⊎_elim (λ t. subst (λ z. z < 65536) (sym (get_or-tab count i f 0 (ltb→lt i count t))) (number_short (at i)))
      (λ t. subst (λ z. z < 65536) (sym (get_or-eq_default (tab count f) 0 (subst (λ z. z ≤ i) (sym (length-tab count f)) (nltb→le i count t)))) (lit< tt))
      (T? (ltb i count))

  record SizesSpelled (count offset at : ℕ) (r : Read (List ℕ)) : Type 0 where
    spells : Spells file at r.next (u16s_bytes r.value)
    many : length r.value ≡ count
    shorts : Shorts r.value
    from : offset ≡ at

  sizes-spelled : (most z o count offset at : ℕ) (r : Read (List ℕ)) → sizes_at most z o count offset file at ≡ accept r → SizesSpelled count offset at r
  unfolding sizes_at
  sizes-spelled most z o count offset at r e =
      let v : List ℕ = tab count (λ i. u16_at file (at + 2 * i)) in
      let a = need-inv 0 (eqb offset at) 6 _ r e in
      let b = need-inv 0 (leb (at + 2 * count) (length file)) 7 _ r a.1 in
      let c = then-inv (judge_sizes most z o 1 v) _ r b.1 in
      subst (SizesSpelled count offset at) (accept-inj c.1)
      (record {
        spells = numbers-spell file bytes at count (leb→le (at + 2 * count) (length file) b.0);
        many = length-tab count (λ i. u16_at file (at + 2 * i));
        shorts = numbers-short count (λ i. at + 2 * i);
        from = eqb→eq offset at a.0;
      })

  record OrderSpelled (e n at : ℕ) (o : Read (List ℕ)) : Type 0 where
    spells : Spells file at o.next (u16s_bytes (order_given n o.value))
    shorts : Shorts (order_given n o.value)
    all : T (some (order_given n o.value)) → length (order_given n o.value) ≡ n
    carried : some (order_given n o.value) ≡ leb 3 e

  order-spelled : (e n at : ℕ) (o : Read (List ℕ)) → at ≤ length file → order_at (carries_order e) n file at ≡ accept o → OrderSpelled e n at o
  unfolding order_at u16s_bytes
  order-spelled e n at o h q = go (leb 3 e) refl q
    where
      go : (b : Bool) → leb 3 e ≡ b → order_at b n file at ≡ accept o → OrderSpelled e n at o
      go true x q =
          let v : List ℕ = tab n (λ i. u16_at file (at + 2 * i)) in
          let a = need-inv 0 (leb (at + 2 * n) (length file)) 7 _ o q in
          let b = need-inv 0 (order_allowed n v) 19 _ o a.1 in
          let g = allowed-given n v b.0 in
          subst (OrderSpelled e n at) (accept-inj b.1) (record {
            spells = subst (λ (l : List ℕ). Spells file at (at + 2 * n) (u16s_bytes l)) (sym g.0)
                (numbers-spell file bytes at n (leb→le (at + 2 * n) (length file) a.0));
            shorts = subst Shorts (sym g.0) (numbers-short n (λ i. at + 2 * i));
            all = λ t. ap length g.0 ∙ g.1;
            carried = ap some g.0 ∙ g.2 ∙ sym x;
          })
      go false x q =
          subst (OrderSpelled e n at) {x = record { value = plain_order n; next = at }} (accept-inj q) (record {
            spells = subst (λ (l : List ℕ). Spells file at at (u16s_bytes l)) (sym (plain-given n)) (nothing file at h);
            shorts = subst Shorts (sym (plain-given n)) (λ i. lit< tt);
            all = λ t. absurd (subst (λ (l : List ℕ). T (some l)) (plain-given n) t);
            carried = ap some (plain-given n) ∙ sym x;
          })

  -- ---- what stands before the steps

  record FrontSpelled (f : Front) : Type 0 where
    long : least_bytes ≤ length file
    short : length file ≤ most_bytes
    total_is : total_length file ≡ length file
    axes_are : axis_count file ≡ length f.mesh
    rank_is : rank_count file ≡ length f.sizes
    edition_is : pick (some (order_given (devices f.mesh) f.order)) 3 (pick (some f.start.replicated) 2 1) ≡ edition file
    mesh_at_is : mesh_offset file ≡ least_bytes
    tensor-at : tensor_offset file ≡ least_bytes + 2 * length f.mesh + 2 * length (order_given (devices f.mesh) f.order)
    sharding_at_is : sharding_offset file ≡ least_bytes + 2 * length f.mesh + 2 * length (order_given (devices f.mesh) f.order) + 2 * length f.sizes
    steps_at_is : steps_offset file ≡ f.next
    mesh_shorts : Shorts f.mesh
    order_shorts : Shorts (order_given (devices f.mesh) f.order)
    order_all : T (some (order_given (devices f.mesh) f.order)) → length (order_given (devices f.mesh) f.order) ≡ devices f.mesh
    sizes_shorts : Shorts f.sizes
    spells : Spells file least_bytes f.next
        (u16s_bytes f.mesh ++ (u16s_bytes (order_given (devices f.mesh) f.order) ++ (u16s_bytes f.sizes ++ sharding_bytes (edition file) f.start)))

  front-spelled : (f : Front) → judge_front file ≡ accept f → FrontSpelled f
  unfolding judge_front_by judge_header_by mesh_and_table_at_by
  front-spelled f q =
      let e : ℕ = edition file in
      let h = then-inv (judge_header file) _ f q in
      let a = need-inv 0 (leb least_bytes (length file)) 1 _ tt h.0.1 in
      let b = need-inv 0 (leb (length file) most_bytes) 2 _ tt a.1 in
      let c = need-inv 0 (edition_known present e) 3 _ tt b.1 in
      let d = need-inv 0 (eqb (total_length file) (length file)) 4 _ tt c.1 in
      let known : T (leb 1 e) × T (leb e 3) = T_and (leb 1 e) (leb e 3) c.0 in
      let mt = bind_inv (mesh_and_table_at (carries_order e) (axis_count file) (rank_count file) file) _ f h.1 in
      let m = bind_inv (sizes_at most_devices 10 11 (axis_count file) (mesh_offset file) file 18) _ mt.0 mt.1 in
      let o = bind_inv (order_at (carries_order e) (devices m.0.value) file m.0.next) _ mt.0 m.2 in
      let t = bind_inv (sizes_at most_words 12 13 (rank_count file) (tensor_offset file) file o.0.next) _ mt.0 o.2 in
      let both : record { value = record { mesh = m.0.value; order = o.0.value; sizes = t.0.value }; next = t.0.next } ≡ mt.0 = accept-inj t.2 in
      let s = bind_inv (sharding_at (carries_replicated e) (axis_count file) (rank_count file) (sharding_offset file) file mt.0.next) _ f mt.2 in
      let w = need-inv 0 (eqb (steps_offset file) s.0.next) 6 _ f s.2 in
      let j = then-inv (judge_start mt.0.value.mesh mt.0.value.sizes s.0.value) _ f w.1 in
      let z = need-inv 0 (one_meaning e s.0.value.replicated) 18 _ f j.1 in
      let fm : SizesSpelled (axis_count file) (mesh_offset file) 18 m.0 = sizes-spelled most_devices 10 11 (axis_count file) (mesh_offset file) 18 m.0 m.1 in
      let fo : OrderSpelled e (devices m.0.value) m.0.next o.0 = order-spelled e (devices m.0.value) m.0.next o.0 fm.spells.inside o.1 in
      let ft : SizesSpelled (rank_count file) (tensor_offset file) o.0.next t.0 = sizes-spelled most_words 12 13 (rank_count file) (tensor_offset file) o.0.next t.0 t.1 in
      let next : mt.0.next ≡ t.0.next = ap (λ (x : Read MeshAndTable). x.next) (sym both) in
      let fs = sharding-spells file e (axis_count file) (rank_count file) (sharding_offset file) mt.0.next s.0 (subst (λ (k : ℕ). k ≤ length file) (sym next) ft.spells.inside) s.1 in
      let M : List ℕ = u16s_bytes m.0.value in
      let order : List ℕ = order_given (devices m.0.value) o.0.value in
      let O : List ℕ = u16s_bytes order in
      let S : List ℕ = u16s_bytes t.0.value in
      let H : List ℕ = sharding_bytes e s.0.value in
      let em : m.0.next ≡ 18 + 2 * length m.0.value = omega (arith, fm.spells.ends, length-u16s m.0.value) in
      let eo : o.0.next ≡ 18 + 2 * length m.0.value + 2 * length order = omega (arith, fo.spells.ends, length-u16s order, em) in
      let et : t.0.next ≡ 18 + 2 * length m.0.value + 2 * length order + 2 * length t.0.value = omega (arith, ft.spells.ends, length-u16s t.0.value, eo) in
      let whole : FrontSpelled (record { mesh = m.0.value; order = o.0.value; sizes = t.0.value; start = s.0.value; next = s.0.next }) = record {
        long = leb→le least_bytes (length file) a.0;
        short = leb→le (length file) most_bytes b.0;
        total_is = eqb→eq (total_length file) (length file) d.0;
        axes_are = sym fm.many;
        rank_is = sym ft.many;
        edition_is = edition-again e order s.0.value.replicated (leb→le 1 e known.0) (leb→le e 3 known.1) fo.carried fs.2 z.0;
        mesh_at_is = fm.from;
        tensor-at = ft.from ∙ eo;
        sharding_at_is = fs.1 ∙ next ∙ et;
        steps_at_is = eqb→eq (steps_offset file) s.0.next w.0;
        mesh_shorts = fm.shorts;
        order_shorts = fo.shorts;
        order_all = fo.all;
        sizes_shorts = ft.shorts;
        spells = join file 18 m.0.next s.0.next M (O ++ (S ++ H)) fm.spells
            (join file m.0.next o.0.next s.0.next O (S ++ H) fo.spells
            (join file o.0.next t.0.next s.0.next S H ft.spells (subst (λ (k : ℕ). Spells file k s.0.next H) next fs.0)));
      } in
      subst FrontSpelled (accept-inj z.1)
      (subst (λ (x : Read MeshAndTable). FrontSpelled (record { mesh = x.value.mesh; order = x.value.order; sizes = x.value.sizes; start = s.0.value; next = s.0.next })) both whole)

  -- ---- the whole file

  abbrev plan_of : Front → Outermost → Plan
  plan_of f o = record {
    mesh = f.mesh;
    order = f.order;
    sizes = f.sizes;
    start = f.start;
    records = o.records;
    steps = o.steps;
    runs = o.runs;
  }

  again : (f : Front) (o : Outermost) → FrontSpelled f → Spells file f.next o.next (steps_bytes (map known o.records))
      → step_count file ≡ outermost (map known o.records) → o.next ≡ length file → file_of (records_of (plan_of f o)) ≡ file
  unfolding file_of header file_length steps_start
  again f o a b count end =
      let r : Records = records_of (plan_of f o) in
      let M : List ℕ = u16s_bytes r.mesh in
      let O : List ℕ = u16s_bytes r.order in
      let S : List ℕ = u16s_bytes r.sizes in
      let H : List ℕ = sharding_bytes (edition_of r) r.start in
      let B : List ℕ = steps_bytes r.steps in
      let front : Spells file least_bytes f.next (M ++ (O ++ (S ++ H))) =
      subst (λ (k : ℕ). Spells file least_bytes f.next (M ++ (O ++ (S ++ sharding_bytes k r.start)))) (sym a.edition_is) a.spells in
      let lengths : length (M ++ (O ++ (S ++ H))) ≡ 2 * length r.mesh + (2 * length r.order + (2 * length r.sizes + length H)) =
      simp (length-append, length-u16s) refl in
      let steps_at_is : steps_start r ≡ f.next = omega (arith, front.ends, lengths) in
      let total_is : file_length r ≡ length file = omega (arith, steps_at_is, b.ends, end) in
      let head : tab 9 (λ i. u16_at file (0 + 2 * i)) ≡ header r =
      rw (
        sym a.edition_is,
        a.axes_are,
        a.rank_is,
        count,
        a.mesh_at_is,
        a.tensor-at,
        a.sharding_at_is,
        a.steps_at_is ∙ sym steps_at_is,
        a.total_is ∙ sym total_is,
      ) in
      let h : Spells file 0 least_bytes (u16s_bytes (header r)) = subst (λ (l : List ℕ). Spells file 0 least_bytes (u16s_bytes l)) head (numbers-spell file bytes 0 9 a.long) in
      let w : Spells file 0 o.next (u16s_bytes (header r) ++ ((M ++ (O ++ (S ++ H))) ++ B)) =
      join file 0 least_bytes o.next (u16s_bytes (header r)) ((M ++ (O ++ (S ++ H))) ++ B) h (join file least_bytes f.next o.next (M ++ (O ++ (S ++ H))) B front b) in
      let none : drop o.next file ≡ [] = ap (λ (k : ℕ). drop k file) end ∙ drop-length file in
      let grouped : (M ++ (O ++ (S ++ H))) ++ B ≡ M ++ (O ++ (S ++ (H ++ B))) = four-joined M O S H B in
      ap (λ (l : List ℕ). u16s_bytes (header r) ++ l) (sym grouped) ∙ sym (append-nil _)
      ∙ ap (λ (l : List ℕ). (u16s_bytes (header r) ++ ((M ++ (O ++ (S ++ H))) ++ B)) ++ l) (sym none) ∙ sym w.is
    where
      four-joined : (m o s h b : List ℕ) → (m ++ (o ++ (s ++ h))) ++ b ≡ m ++ (o ++ (s ++ (h ++ b)))
      four-joined m o s h b =
          append_assoc m (o ++ (s ++ h)) b
          ∙ ap (λ (l : List ℕ). m ++ l) (append_assoc o (s ++ h) b ∙ ap (λ (l : List ℕ). o ++ l) (append_assoc s h b))

  -- the parts of an accepted file
  parts : (p : Plan) → judge file ≡ accept p
      → (f : Front) × (o : Outermost) × FrontSpelled f × (file_of (records_of (plan_of f o)) ≡ file) × (plan_of f o ≡ p)
  unfolding judge_by
  parts p e =
      let f = bind_inv (judge_front file) _ p e in
      let ts = bind_inv (outermost_at every_kind f.0.mesh f.0.sizes file 0 (step_count file) 1 f.0.next f.0.start) _ p f.2 in
      let o : Outermost = ts.0 in
      let z = need-inv 0 (eqb o.next (length file)) 9 _ p ts.2 in
      let a : FrontSpelled f.0 = front-spelled f.0 f.1 in
      let one = item_at every_kind f.0.mesh f.0.sizes file most_depth in
      let b : Spells file f.0.next o.next (steps_bytes (map known o.records)) =
      steps-spell f.0.mesh f.0.sizes file one (item-spells f.0.mesh f.0.sizes file every_kind most_depth) (step_count file) 1 f.0.next f.0.start
      (read_by f.0.mesh f.0.sizes file f.0.start o) a.spells.inside
      (outermost-steps f.0.mesh f.0.sizes file every_kind 0 (step_count file) 1 f.0.next f.0.start o ts.1) in
      let count : outermost (map known o.records ++ []) ≡ step_count file + outermost [] =
      outermost-counted f.0.mesh f.0.sizes file every_kind 0 (step_count file) 1 f.0.next f.0.start o ts.1 [] in
      let none : outermost [] ≡ 0 = unfold outermost_from in refl in
      let counted : step_count file ≡ outermost (map known o.records) =
      (let x : step_count file ≡ outermost (map known o.records ++ []) = omega (arith, count, none) in
      x ∙ ap outermost (append-nil (map known o.records))) in
      (f.0, o, a, again f.0 o a b counted (eqb→eq o.next (length file) z.0), accept-inj z.1)

  -- THE FILE OF AN ACCEPTED FILE'S RECORDS IS THAT FILE
  spelled-again : (p : Plan) → judge file ≡ accept p → file_of (records_of p) ≡ file
  spelled-again p e = let x = parts p e in subst (λ (q : Plan). file_of (records_of q) ≡ file) x.4 x.3

  -- and the writer takes them
  pub again-fits : (p : Plan) → judge file ≡ accept p → Fits (records_of p)
  again-fits p e =
      let x = parts p e in
      let f : FrontSpelled x.0 = x.2 in
      let q : Plan = plan_of x.0 x.1 in
      let a : AcceptedPlan q = accepted file q (e ∙ ap accept (sym x.4)) in
      subst (λ (y : Plan). Fits (records_of y)) x.4 (record {
        short = subst (λ z. z ≤ most_bytes) (sym (ap length x.3) ∙ length-file (records_of q)) f.short;
        order_all = f.order_all;
        proper = record {
          mesh_shorts = f.mesh_shorts;
          order_shorts = f.order_shorts;
          sizes_shorts = f.sizes_shorts;
          dims_ranked = sym (rank_is q.mesh q.sizes a.within.sizes_pos q.start a.start_is);
          steps_ranked = pass-ranked q.mesh q.sizes a.within.sizes_pos q.start q.records a.start_is a.pass_fine;
        };
      })

  pub taken-again : (p : Plan) → judge file ≡ accept p → judge_records (records_of p) ≡ accept p
  taken-again p e = sym (file_judged (records_of p) (again-fits p e)) ∙ ap judge (spelled-again p e) ∙ e

pub written_again : WrittenAgain
unfolding write_of
written_again file bytes p e =
    let w : file_of (records_of p) ≡ file = spelled-again file bytes p e in
    let l : file_length (records_of p) ≡ length file = sym (length-file (records_of p)) ∙ ap length w in (
      w,
      λ out h. rw (
        taken-again file bytes p e,
        is_le (file_length (records_of p)) most_bytes (again-fits file bytes p e).short,
        is_le (file_length (records_of p)) (length out) (omega (arith, l)),
        l,
      ) refl,
    )

pub one_file : OneFile
one_file file other bytes more p e f = sym (written_again file bytes p e).0 ∙ (written_again other more p f).0
