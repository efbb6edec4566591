-- A step that was accepted of a sharding within the limits has what it asks for (`stepping`), and leaves the shards after it of those that stood in the
-- old buffer (`leaves-shards`), and what it spends of that buffer (`spends-shards`). Assumes nothing.
use Prim.Native.Nat.{ℕ, ◌*◌, ◌≤◌}
use mathlib.Core.Path.{◌≡◌, refl, sym, ap, ap₂, ◌∙◌, subst}
use mathlib.Core.List.{List, ◌++◌}
use lib.ListN.{length, drop, take-append-drop}
use Rattle.rules.specs.Lists.{flat, product, ascending}
use Rattle.rules.specs.Mesh.{devices}
use Rattle.rules.specs.Sharding.{Sharding, shard_sizes, IsSharding}
use Rattle.rules.specs.Spread.{tabulate, held}
use Rattle.rules.specs.Collectives.{Step, all_slice, all_gather, all_reduce, all_to_all, reduce_scatter, after, shape_after, Shards, stepped, Stands, with_shards}
use Rattle.rules.specs.Refusals.{accept}
use Rattle.rules.specs.PlanFile.{judge_step}
use Rattle.laws.proofs.Buffers.{held-tabulate}
use Rattle.laws.proofs.Sources.{Ready}
use Rattle.laws.proofs.Steps.{facts, after-shape}
use Rattle.laws.proofs.Accepted.{Within}
use Rattle.laws.proofs.Room.{ShardWords, shard-words}
use Rattle.laws.proofs.Next.{step-ready}
use Rattle.laws.proofs.Stands.{step-stands}
use Rattle.step.specs.Stepping.{Stepping, stepped_buffer, spent_buffer, spent_shards}
use Rattle.sums.specs.Sums.{summed, summed_buffer}
use Rattle.step.proofs.Firsts.{summed-cong}
use Rattle.step.proofs.Kernels.{sizes_pos}

pub stepping : {mesh sizes : List ℕ} (k : ℕ) {t : Step} {s : Sharding} {old new : ℕ} → Within mesh sizes → IsSharding mesh sizes s
    → judge_step mesh sizes k t s ≡ accept (after t s) → devices mesh * product (shard_sizes mesh sizes s.dims) ≤ old
    → devices mesh * product (shard_sizes mesh sizes (after t s).dims) ≤ new
    → Stepping mesh (shard_sizes mesh sizes s.dims) t (product (shard_sizes mesh sizes (after t s).dims)) old new
stepping {mesh} {sizes} k {t} {s} w h e o n =
    let m : ShardWords (product (shard_sizes mesh sizes s.dims)) = shard-words mesh sizes w s h in
    record {
      sizes = sizes;
      before = s;
      number = k;
      next = after t s;
      judged = e;
      sharding = h;
      shape_is = refl;
      on = record { axes_some = w.axes_some; axes_few = w.axes_few; devices_pos = w.devices_pos; devices_few = w.devices_few };
      rank_few = w.rank_few;
      words_pos = w.words_pos;
      words_few = w.words_few;
      shard_pos = m.words_pos;
      shard_few = m.words_few;
      words_are = ap product (sym (after-shape mesh sizes w.sizes_pos t s h (facts mesh sizes k t s (after t s) e).0));
      old_room = o;
      new_room = n;
    }

module _ {mesh shape : List ℕ} {t : Step} {words old new : ℕ} (h : Stepping mesh shape t words old new) where
  pub leaves-shards : {W : Type 0} (addAll : List W → W) (z : W) (v : Shards W) → v.shape ≡ shape → (olds news : List W) → Stands mesh v olds
      → stepped_buffer addAll z mesh shape t words olds news ≡ with_shards mesh (stepped addAll mesh t v) news
  unfolding stepped
  leaves-shards {W} addAll z v q olds news st =
      let r : Ready mesh t v.shape = subst (Ready mesh t) (h.shape_is ∙ sym q) (step-ready mesh h.sizes (sizes_pos h) t h.before h.sharding
      (facts mesh h.sizes h.number t h.before h.next h.judged).0) in
      (λ i. stepped_buffer addAll z mesh (sym q i) t (h.words_are i) olds news)
      ∙ ap₂ (λ (b : List W) (shape : List ℕ). b ++ drop (devices mesh * product (shape_after mesh t shape)) news) (step-stands mesh addAll z t v olds r st) (sym q)

pub spends-shards : {W : Type 0} (addAll : List W → W) (z : W) (mesh : List ℕ) {shape : List ℕ} (t : Step) (v : Shards W) → v.shape ≡ shape → (olds : List W)
    → Stands mesh v olds → spent_buffer addAll z mesh shape t olds ≡ spent_shards addAll mesh t v olds
unfolding stepped
spends-shards addAll z mesh (all_slice Ss) v q olds st = refl
spends-shards addAll z mesh (all_gather Gs) v q olds st = refl
spends-shards addAll z mesh (all_reduce L) v q olds st = refl
spends-shards addAll z mesh (all_to_all source target L) v q olds st = refl
spends-shards {W} addAll z mesh (reduce_scatter Ss) v q olds st =
    let L : List ℕ = ascending (length mesh) (flat Ss) in
    let n : ℕ = devices mesh * product v.shape in
    let stood : olds ≡ with_shards mesh v olds = sym (take-append-drop n olds) ∙ ap (λ (l : List W). l ++ drop n olds) st in
    ap (λ (l : List ℕ). summed_buffer addAll z mesh l L 1 olds) (sym q)
    ∙ ap (λ (b : List W). b ++ drop n olds)
    (ap (λ (b : List W). tabulate mesh v.shape (summed addAll mesh L 1 (held z mesh v.shape b))) stood
    ∙ summed-cong addAll mesh L 1 v.shape (held z mesh v.shape (with_shards mesh v olds)) v.words
    (λ x i bx bi. held-tabulate mesh v.shape z v.words (drop n olds) bx bi))
