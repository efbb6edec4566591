-- A step or a repeat that was accepted leaves all that is asked before the next one. Assumes nothing.
use Prim.Native.Nat.{ℕ, ◌+◌, ◌≤◌, max}
use mathlib.Core.Path.{◌≡◌, ap, ◌∙◌, subst}
use mathlib.Core.List.{List}
use native.Mathlib.Omega.{arith}
use lib.ListN.{length}
use Rattle.rules.specs.Sharding.{Sharding, IsSharding}
use Rattle.rules.specs.Limits.{every_kind}
use Rattle.rules.specs.Refusals.{accept}
use Rattle.rules.specs.PlanFile.{Read, StepsRead, item_at}
use Rattle.laws.specs.Demands.{one_pass, largest_on}
use Rattle.types.specs.Types.{sharding_of, mesh_of, sizes_of}
use Rattle.laws.proofs.Turns.{steps-sharding, last-largest}
use Rattle.laws.proofs.Repeats.{Told, item-tells}
use Rattle.laws.proofs.Bytes.{Takes, item-takes}
use Rattle.types.specs.declared.Mesh.{Mesh}
use Rattle.types.specs.declared.Table.{Table}
use Rattle.types.specs.declared.Sharding as code
use Rattle.taking.specs.declared.Extent.{Extent}
use Rattle.blocks.specs.Blocks.{shard_words, Summary, summarized, steps_of, Judging}
use Rattle.blocks.specs.declared.StepsJudged.{StepsJudged}
use Rattle.blocks.proofs.Plain.{summary-inv}

pub judging-next : (file : List ℕ) (depth : ℕ) (mesh : Mesh) (table : Table) {extent : Extent} {at k largest : ℕ} {s : code.Sharding} (r : StepsJudged)
    → Judging file at k mesh table extent largest s
    → summarized (mesh_of mesh) (sizes_of table) k largest (sharding_of table.rank s)
    (item_at every_kind (mesh_of mesh) (sizes_of table) file depth k at (sharding_of table.rank s)) ≡ accept (steps_of table.rank r)
    → Judging file r.at r.number mesh table extent r.largest r.sharding
judging-next file depth mesh table {extent} {at} {k} {largest} {s} r g e =
    let M : List ℕ = mesh_of mesh in
    let N : List ℕ = sizes_of table in
    let z : Sharding = sharding_of table.rank s in
    let x = summary-inv M N k largest z _ _ e in
    let w : StepsRead = x.0 in
    let t : Takes M N file at w = item-takes M N file every_kind depth k at z w x.1 in
    let u : Told M N file z w = item-tells M N file every_kind depth k at z w x.1 in
    let f : Sharding → ℕ = λ y. shard_words M N y in
    let n_is : k + length w.records ≡ r.number = ap (λ (y : Read Summary). y.value.number) x.2 in
    let m-is : max largest (largest_on f z (one_pass w.records)) ≡ r.largest = ap (λ (y : Read Summary). y.value.largest) x.2 in
    let s-is : w.sharding ≡ sharding_of table.rank r.sharding = ap (λ (y : Read Summary). y.value.sharding) x.2 in
    let a-is : w.next ≡ r.at = ap (λ (y : Read Summary). y.next) x.2 in
    let last : f (sharding_of table.rank r.sharding) ≤ largest_on f z (one_pass w.records) =
    subst (λ (y : Sharding). f y ≤ largest_on f z (one_pass w.records)) (u.pass_ends ∙ s-is) (last-largest f z (one_pass w.records)) in
    record {
      ready = record {
        fits = g.ready.fits;
        sound = subst (IsSharding M N) (u.ends ∙ s-is) (steps-sharding M N g.ready.fits.sized.least z w.steps g.ready.sound u.fine);
      };
      extends = g.extends;
      counted = omega (arith, last, m-is);
      number_few = omega (arith, g.number_few, t.bytes, n_is, a-is);
      inside = omega (arith, t.inside, a-is);
      short = g.short;
    }
