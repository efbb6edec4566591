-- What an accepted step, repeat or row of steps tells: its running list and its one pass are accepted step by step and lead to its sharding, and the
-- states on both ways have the same largest. A block leads back to where it began (`blocks_come_back`). Assumes nothing.
use Prim.Native.Nat.{ℕ, zero, suc, ◌+◌, ◌*◌, ◌<◌, ◌≤◌, max}
use mathlib.Core.Path.{◌≡◌, refl, sym, ap, ap₂, ◌∙◌, subst}
use mathlib.Core.Bool.{Bool, true, false, ◌&&◌}
use mathlib.Core.List.{List, [], ◌∷◌, ◌++◌}
use native.Mathlib.Omega.{arith}
use lib.ListN.{length, get_or, take, replicate, length-append}
use lib.Dec.{T, ltb, leb, ltb→lt, leb→le}
use Rattle.rules.specs.Lists.{both, flat, in_turn, total}
use Rattle.rules.specs.Sharding.{Sharding}
use Rattle.rules.specs.Collectives.{Step, after}
use Rattle.rules.specs.Limits.{most_run, most_depth}
use Rattle.rules.specs.Refusals.{Judged, accept, ◌>>=◌}
use Rattle.rules.specs.PlanFile.{
  step_at,
  judge_step,
  same,
  Record,
  plain,
  repeat,
  StepsRead,
  JudgesStep,
  JudgesSteps,
  steps_at,
  plain_at,
  positive_at,
  same_sharding,
  repeat_at,
  is_repeat,
  item_with,
  too_deep,
  item_at,
  Outermost,
  outermost_at,
}
use Rattle.laws.specs.Demands.{one_pass, largest_on, BlocksComeBack}
use Rattle.laws.proofs.Lists.{T_and, in-turn-append}
use Rattle.laws.proofs.Judging.{never, accept-inj, need-inv, bind_inv, same-eq}
use Rattle.laws.proofs.Steps.{AcceptedStep, facts}
use Rattle.laws.proofs.Turns.{Fine, in-turn-times, in-turn-round, fine-append, fine-times, largest-append, largest-times}

-- ---- 41: list for list is equal

lists-eq : (Ls Ms : List (List ℕ)) → T (both same Ls Ms) → Ls ≡ Ms
lists-eq [] [] t = refl
lists-eq [] (M ∷ Ms) t = absurd t
lists-eq (L ∷ Ls) [] t = absurd t
lists-eq (L ∷ Ls) (M ∷ Ms) t =
    let r : T (same L M) × T (both same Ls Ms) = T_and (same L M) (both same Ls Ms) t in
    ap₂ (λ (c : List ℕ) (l : List (List ℕ)). c ∷ l) (same-eq L M r.0) (lists-eq Ls Ms r.1)

pub sharding-eq : (s r : Sharding) → T (same_sharding s r) → s ≡ r
unfolding same_sharding
sharding-eq s r t =
    let p = T_and (both same s.dims r.dims) (same s.unreduced r.unreduced && same s.replicated r.replicated) t in
    let q = T_and (same s.unreduced r.unreduced) (same s.replicated r.replicated) p.1 in
    let d : s.dims ≡ r.dims = lists-eq s.dims r.dims p.0 in
    let u : s.unreduced ≡ r.unreduced = same-eq s.unreduced r.unreduced q.0 in
    let v : s.replicated ≡ r.replicated = same-eq s.replicated r.replicated q.1 in
    λ i. record { dims = d i; unreduced = u i; replicated = v i }

pub pass-append : (l m : List Record) → one_pass (l ++ m) ≡ one_pass l ++ one_pass m
pass-append [] m = refl
pass-append (plain t ∷ l) m = ap (λ (ts : List Step). t ∷ ts) (pass-append l m)
pass-append (repeat count number ∷ l) m = pass-append l m

-- ---- what an accepted step or row tells

module _ (mesh sizes file : List ℕ) where
  pub record Told (s : Sharding) (w : StepsRead) : Type 0 where
    pub fine : Fine mesh sizes s w.steps
    pub ends : in_turn after w.steps s ≡ w.sharding
    pub pass_fine : Fine mesh sizes s (one_pass w.records)
    pub pass_ends : in_turn after (one_pass w.records) s ≡ w.sharding
    pub largest-same : (f : Sharding → ℕ) → largest_on f s w.steps ≡ largest_on f s (one_pass w.records)

  abbrev pub Tells : JudgesStep → Type 0
  Tells one = (k at : ℕ) (s : Sharding) (w : StepsRead) → one k at s ≡ accept w → Told s w

  -- two one after the other
  joined : (s : Sharding) (t u : StepsRead) → Told s t → Told t.sharding u
      → Told s (record { records = t.records ++ u.records; steps = t.steps ++ u.steps; sharding = u.sharding; next = u.next })
  joined s t u f g = record {
    fine = fine-append mesh sizes t.steps u.steps s f.fine (subst (λ (z : Sharding). Fine mesh sizes z u.steps) (sym f.ends) g.fine);
    ends = in-turn-append after t.steps u.steps s ∙ ap (in_turn after u.steps) f.ends ∙ g.ends;
    pass_fine = subst (Fine mesh sizes s) (sym (pass-append t.records u.records))
        (fine-append mesh sizes (one_pass t.records) (one_pass u.records) s f.pass_fine
        (subst (λ (z : Sharding). Fine mesh sizes z (one_pass u.records)) (sym f.pass_ends) g.pass_fine));
    pass_ends = ap (λ (l : List Step). in_turn after l s) (pass-append t.records u.records)
        ∙ in-turn-append after (one_pass t.records) (one_pass u.records) s ∙ ap (in_turn after (one_pass u.records)) f.pass_ends ∙ g.pass_ends;
    largest-same = λ h.
        largest-append h t.steps u.steps s ∙ ap₂ max (f.largest-same h) (ap (λ (z : Sharding). largest_on h z u.steps) f.ends ∙ g.largest-same h)
        ∙ sym (ap (largest_on h s) (pass-append t.records u.records) ∙ largest-append h (one_pass t.records) (one_pass u.records) s
        ∙ ap (λ (z : Sharding). max (largest_on h s (one_pass t.records)) (largest_on h z (one_pass u.records))) f.pass_ends);
  }

  pub steps-tell : (one : JudgesStep) → Tells one → (count : ℕ) → Tells (steps_at one count)
  unfolding steps_at
  steps-tell one g zero k at s w e =
      subst (Told s) (accept-inj e) (record { fine = tt; ends = refl; pass_fine = tt; pass_ends = refl; largest-same = λ h. refl })
  steps-tell one g (suc count) k at s w e =
      let t = bind_inv (one k at s) _ w e in
      let u = bind_inv (steps_at one count (k + length t.0.records) t.0.next t.0.sharding) _ w t.2 in
      subst (Told s) (accept-inj u.2)
      (joined s t.0 u.0 (g k at s t.0 t.1) (steps-tell one g count (k + length t.0.records) t.0.next t.0.sharding u.0 u.1))

  pub plain-tells : Tells (plain_at mesh sizes file)
  unfolding plain_at
  plain-tells k at s w e =
      let p = bind_inv (step_at (length mesh) (length sizes) k file at) _ w e in
      let t : Step = p.0.value in
      let q = bind_inv (judge_step mesh sizes k t s) _ w p.2 in
      let f : AcceptedStep mesh sizes t s × (after t s ≡ q.0) = facts mesh sizes k t s q.0 q.1 in
      subst (Told s) (accept-inj q.2) (record { fine = (f.0, tt); ends = f.1; pass_fine = (f.0, tt); pass_ends = f.1; largest-same = λ h. refl })

  pub positive-inv : (k at n : ℕ) → positive_at k file at ≡ accept n → (at < length file) × (0 < n) × (get_or file at 0 ≡ n)
  unfolding positive_at
  positive-inv k at n e =
      let a = need-inv 0 (ltb at (length file)) 7 _ n e in
      let b : T (ltb 0 (get_or file at 0)) × (accept (get_or file at 0) ≡ accept n) = need-inv k (ltb 0 (get_or file at 0)) 44 _ n a.1 in
      let c : get_or file at 0 ≡ n = accept-inj b.1 in
      (ltb→lt at (length file) a.0, subst (λ z. 0 < z) c (ltb→lt 0 (get_or file at 0) b.0), c)

  -- what an accepted repeat is
  pub record IsRepeat (inner : JudgesSteps) (k at : ℕ) (s : Sharding) (w : StepsRead) : Type 0 where
    pub count : ℕ
    pub number : ℕ
    pub block : StepsRead
    pub count_pos : 0 < count
    pub number-pos : 0 < number
    pub count_is : positive_at k file at ≡ accept count
    pub number_is : positive_at k file (at + 1) ≡ accept number
    pub block_is : inner number (k + 1) (at + 2) s ≡ accept block
    pub back : block.sharding ≡ s
    pub few : count * length block.steps ≤ most_run
    pub whole : record { records = repeat count number ∷ block.records; steps = flat (replicate count block.steps); sharding = block.sharding; next = block.next } ≡ w

  pub repeat-inv : (inner : JudgesSteps) (k at : ℕ) (s : Sharding) (w : StepsRead) → repeat_at inner file k at s ≡ accept w → IsRepeat inner k at s w
  unfolding repeat_at
  repeat-inv inner k at s w e =
      let c = bind_inv (positive_at k file at) _ w e in
      let n = bind_inv (positive_at k file (at + 1)) _ w c.2 in
      let b = bind_inv (inner n.0 (k + 1) (at + 2) s) _ w n.2 in
      let x = need-inv k (same_sharding b.0.sharding s) 41 _ w b.2 in
      let y = need-inv k (leb (c.0 * length b.0.steps) most_run) 43 _ w x.1 in
      record {
        count = c.0;
        number = n.0;
        block = b.0;
        count_pos = (positive-inv k at c.0 c.1).1;
        number-pos = (positive-inv k (at + 1) n.0 n.1).1;
        count_is = c.1;
        number_is = n.1;
        block_is = b.1;
        back = sharding-eq b.0.sharding s x.0;
        few = leb→le (c.0 * length b.0.steps) most_run y.0;
        whole = accept-inj y.1;
      }

  pub repeat-tells : (inner : JudgesSteps) → ((count : ℕ) → Tells (inner count)) → Tells (repeat_at inner file)
  repeat-tells inner g k at s w e =
      let h : IsRepeat inner k at s w = repeat-inv inner k at s w e in
      let b : StepsRead = h.block in
      let f : Told s b = g h.number (k + 1) (at + 2) s b h.block_is in
      let l : in_turn after b.steps s ≡ s = f.ends ∙ h.back in
      subst (Told s) h.whole (record {
        fine = fine-times mesh sizes h.count b.steps s l f.fine;
        ends = in-turn-times after h.count b.steps s l ∙ sym h.back;
        pass_fine = f.pass_fine;
        pass_ends = f.pass_ends;
        largest-same = λ m. largest-times m h.count b.steps s h.count_pos l ∙ f.largest-same m;
      })

  by_tells : (b : Bool) (inner : JudgesSteps) → ((count : ℕ) → Tells (inner count)) → Tells (item_with b inner mesh sizes file)
  unfolding item_with
  by_tells false inner g k at s w e = plain-tells k at s w e
  by_tells true inner g k at s w e = repeat-tells inner g k (at + 1) s w e

  pub item-tells : (known : ℕ → Bool) (depth : ℕ) → Tells (item_at known mesh sizes file depth)
  unfolding item_at
  item-tells known zero k at s w e =
      by_tells (is_repeat file at) (too_deep k) (λ count k' at' s' w' e'. absurd (never e')) k at s w (need-inv k (known (get_or file at 0)) 20 _ w e).1
  item-tells known (suc depth) k at s w e =
      by_tells (is_repeat file at) (steps_at (item_at known mesh sizes file depth)) (steps-tell (item_at known mesh sizes file depth) (item-tells known depth)) k at s w
      (need-inv k (known (get_or file at 0)) 20 _ w e).1

  -- ---- the outermost steps

  pub record ToldOutermost (ran count : ℕ) (s : Sharding) (w : Outermost) : Type 0 where
    pub fine : Fine mesh sizes s w.steps
    pub pass_fine : Fine mesh sizes s (one_pass w.records)
    pub same_end : in_turn after w.steps s ≡ in_turn after (one_pass w.records) s
    pub largest-same : (f : Sharding → ℕ) → largest_on f s w.steps ≡ largest_on f s (one_pass w.records)
    pub few : ran + length w.steps ≤ most_run
    pub runs_are : total w.runs ≡ length w.steps
    pub many : length w.runs ≡ count

  pub outermost-tells : (known : ℕ → Bool) (ran count k at : ℕ) (s : Sharding) (w : Outermost) → ran ≤ most_run → outermost_at known mesh sizes file ran count k at s ≡ accept w
      → ToldOutermost ran count s w
  unfolding outermost_at
  outermost-tells known ran zero k at s w l e =
      subst (ToldOutermost ran 0 s) (accept-inj e) (record { fine = tt; pass_fine = tt; same_end = refl; largest-same = λ h. refl; few = omega arith; runs_are = refl; many = refl })
  outermost-tells known ran (suc count) k at s w l e =
      let t = bind_inv (item_at known mesh sizes file most_depth k at s) _ w e in
      let b : StepsRead = t.0 in
      let x = need-inv k (leb (ran + length b.steps) most_run) 43 _ w t.2 in
      let m : ran + length b.steps ≤ most_run = leb→le (ran + length b.steps) most_run x.0 in
      let u = bind_inv (outermost_at known mesh sizes file (ran + length b.steps) count (k + length b.records) b.next b.sharding) _ w x.1 in
      let f : Told s b = item-tells known most_depth k at s b t.1 in
      let g : ToldOutermost (ran + length b.steps) count b.sharding u.0 =
      outermost-tells known (ran + length b.steps) count (k + length b.records) b.next b.sharding u.0 m u.1 in
      subst (ToldOutermost ran (suc count) s) (accept-inj u.2) (with_first s b u.0 f g)
    where
      with_first : (s : Sharding) (b : StepsRead) (u : Outermost) → Told s b → ToldOutermost (ran + length b.steps) count b.sharding u
          → ToldOutermost ran (suc count) s (record { records = b.records ++ u.records; steps = b.steps ++ u.steps; runs = length b.steps ∷ u.runs; next = u.next })
      with_first s b u f g =
          let j : Told s (record { records = b.records ++ u.records; steps = b.steps ++ u.steps; sharding = in_turn after u.steps b.sharding; next = u.next }) =
          joined s b (record { records = u.records; steps = u.steps; sharding = in_turn after u.steps b.sharding; next = u.next }) f
          (record { fine = g.fine; ends = refl; pass_fine = g.pass_fine; pass_ends = sym g.same_end; largest-same = g.largest-same }) in
          record {
            fine = j.fine;
            pass_fine = j.pass_fine;
            same_end = j.ends ∙ sym j.pass_ends;
            largest-same = j.largest-same;
            few = omega (arith, length-append b.steps u.steps, g.few);
            runs_are = omega (arith, length-append b.steps u.steps, g.runs_are);
            many = ap suc g.many;
          }

  -- ---- the outermost steps are a row of steps

  abbrev pub read_by : Sharding → Outermost → StepsRead
  read_by s o = record { records = o.records; steps = o.steps; sharding = in_turn after o.steps s; next = o.next }

  pub outermost-steps : (known : ℕ → Bool) (ran count k at : ℕ) (s : Sharding) (o : Outermost) → outermost_at known mesh sizes file ran count k at s ≡ accept o
      → steps_at (item_at known mesh sizes file most_depth) count k at s ≡ accept (read_by s o)
  unfolding outermost_at steps_at
  outermost-steps known ran zero k at s o e = ap (λ (x : Outermost). accept (read_by s x)) (accept-inj e)
  outermost-steps known ran (suc count) k at s o e =
      let t = bind_inv (item_at known mesh sizes file most_depth k at s) _ o e in
      let b : StepsRead = t.0 in
      let x = need-inv k (leb (ran + length b.steps) most_run) 43 _ o t.2 in
      let u = bind_inv (outermost_at known mesh sizes file (ran + length b.steps) count (k + length b.records) b.next b.sharding) _ o x.1 in
      let f : Told s b = item-tells known most_depth k at s b t.1 in
      let g : steps_at (item_at known mesh sizes file most_depth) count (k + length b.records) b.next b.sharding ≡ accept (read_by b.sharding u.0) =
      outermost-steps known (ran + length b.steps) count (k + length b.records) b.next b.sharding u.0 u.1 in
      let q : in_turn after u.0.steps b.sharding ≡ in_turn after (b.steps ++ u.0.steps) s =
      ap (in_turn after u.0.steps) (sym f.ends) ∙ sym (in-turn-append after b.steps u.0.steps s) in
      ap (λ (j : Judged StepsRead). ◌>>=◌ j (λ (t : StepsRead). ◌>>=◌ (steps_at (item_at known mesh sizes file most_depth) count (k + length t.records) t.next t.sharding)
      (λ (ts : StepsRead). accept (joins t ts)))) t.1
      ∙ ap (λ (j : Judged StepsRead). ◌>>=◌ j (λ (ts : StepsRead). accept (joins b ts))) g
      ∙ (λ i. accept (record { records = b.records ++ u.0.records; steps = b.steps ++ u.0.steps; sharding = q i; next = u.0.next }))
      ∙ ap (λ (z : Outermost). accept (read_by s z)) (accept-inj u.2)
    where
      joins : StepsRead → StepsRead → StepsRead
      joins t ts = record { records = t.records ++ ts.records; steps = t.steps ++ ts.steps; sharding = ts.sharding; next = ts.next }

-- EVERY ROUND OF A BLOCK VISITS THE SAME STATES
pub blocks_come_back : BlocksComeBack
blocks_come_back known mesh sizes file depth k at s w e =
    let inner : JudgesSteps = steps_at (item_at known mesh sizes file depth) in
    let h : IsRepeat mesh sizes file inner k at s w = repeat-inv mesh sizes file inner k at s w e in
    let b : StepsRead = h.block in
    let f : Told mesh sizes file s b =
    steps-tell mesh sizes file (item_at known mesh sizes file depth) (item-tells mesh sizes file known depth) h.number (k + 1) (at + 2) s b h.block_is in
    let l : in_turn after b.steps s ≡ s = f.ends ∙ h.back in
    let steps : flat (replicate h.count b.steps) ≡ w.steps = ap (λ (z : StepsRead). z.steps) h.whole in
    record {
      count = h.count;
      number = h.number;
      block = b;
      count_is = (positive-inv mesh sizes file k at h.count h.count_is).2;
      number_is = (positive-inv mesh sizes file k (at + 1) h.number h.number_is).2;
      block_is = h.block_is;
      rounds = sym steps;
      back = ap (λ (z : StepsRead). z.sharding) (sym h.whole) ∙ h.back;
      visits = λ i j m n.
          ap (λ (r : List Step). in_turn after (take (i * length b.steps + j) r) s) (sym steps) ∙ in-turn-round after h.count b.steps s l i j m n;
    }
