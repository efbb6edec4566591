use borrow.Author.Rules.{rules}
use native.Mathlib.Omega.{arith}
use Prim.Native.Nat.{ℕ, ◌≤◌, ◌<◌}
use mathlib.Core.Path.{sym, ap, ◌∙◌, subst}
use lib.ListN.{length, take, replicate}
use Rattle.rules.specs.Lists.{pick}
use Rattle.rules.specs.PlanFile.{room}
use Rattle.types.specs.Answers.{judged}
use Rattle.types.specs.declared.Ran.{Ran}
use Rattle.types.specs.declared.Refusal.{Refusal}
use Rattle.std.specs.Prelude.{Err}
use Rattle.types.proofs.Promises.{run-promise}
use Rattle.plan.specs.Parts.{whole_of, WholeTells}
use Rattle.plan.proofs.Wholes.{plan-held, whole-stopped, bounded}
use Rattle.run.proofs.Returns.{stops-file, stops-work, stops-spare, finishes, last-size, last_fits}
use Rattle.run.proofs.Zeros.{cleared-behind}
use Rattle.run.proofs.run.Goals as goal

pub returns-in-Err : goal.returns-in-Err
returns-in-Err c =
    let e = whole-stopped _ (subst (WholeTells (whole_of c.args.file.now)) c.in-Err.is c.judge_file.ensures) in
    run-promise _ _ _ c.refused.result (λ i. (c.type_inv.work i).fits)
    (stops-file _ c.args.work.now c.args.spare.now e
    ∙ ap (λ (x : Ran). record { outcome = judged x.outcome; moved = x.moved; work = c.args.work.now; spare = c.args.spare.now }) (sym c.refused.ensures))

pub overflow_mul-room : goal.overflow_mul-room
overflow_mul-room c = let b = bounded _ (plan-held _ (subst (WholeTells (whole_of c.args.file.now)) c.in-Ok.is c.judge_file.ensures)) in
    omega (arith, b.room_few)

pub returns-then-work-room : goal.returns-then-work-room
returns-then-work-room c = let j = c in
    let s = c in
    let h = plan-held _ (subst (WholeTells (whole_of c.args.file.now)) c.in-Ok.is c.judge_file.ensures) in
    let l : length s.args.work.now < room h.0 = omega (arith, h.2.room_is, c.if-work-room.true) in
    run-promise _ _ _ c.refused-then-work-room.result (λ i. (c.type_inv.work i).fits)
    (stops-work _ s.args.work.now s.args.spare.now h.1 l
    ∙ ap (λ (x : Ran). record { outcome = judged x.outcome; moved = x.moved; work = s.args.work.now; spare = s.args.spare.now }) (sym (c.refused-then-work-room.ensures ∙ ap (λ (r : Refusal). record { outcome = Err r; moved = 0 }) c.outside.ensures)))

pub returns-then-spare-room : goal.returns-then-spare-room
returns-then-spare-room c = let j = c in
    let s = c in
    let h = plan-held _ (subst (WholeTells (whole_of c.args.file.now)) c.in-Ok.is c.judge_file.ensures) in
    let w : room h.0 ≤ length s.args.work.now = omega (arith, h.2.room_is, c.if-work-room.false) in
    let l : length s.args.spare.now < room h.0 = omega (arith, h.2.room_is, c.if-spare-room.true) in
    run-promise _ _ _ c.refused-then-spare-room.result (λ i. (c.type_inv.work i).fits)
    (stops-spare _ s.args.work.now s.args.spare.now h.1 w l
    ∙ ap (λ (x : Ran). record { outcome = judged x.outcome; moved = x.moved; work = s.args.work.now; spare = s.args.spare.now }) (sym (c.refused-then-spare-room.ensures ∙ ap (λ (r : Refusal). record { outcome = Err r; moved = 0 }) c.outside-then-spare-room.ensures)))

pub run_plan-in_work-requires : goal.run_plan-in_work-requires
run_plan-in_work-requires c = let j = c in
    let h = plan-held _ (subst (WholeTells (whole_of c.args.file.now)) c.in-Ok.is c.judge_file.ensures) in
    record {
      plan = h.0;
      judged = h.1;
      holds = h.2;
      work_room = omega (arith, h.2.room_is, c.if-work-room.false);
      spare_room = omega (arith, h.2.room_is, c.if-spare-room.false);
    }

pub last_words-last-requires : goal.last_words-last-requires
last_words-last-requires c = let r = c in
    let j = c in
    let h = plan-held _ (subst (WholeTells (whole_of c.args.file.now)) c.in-Ok.is c.judge_file.ensures) in
    (bounded _ h, (last_fits h r.if-work-room.false).few)

pub bring_home-requires : goal.bring_home-requires
bring_home-requires c =
    let h = plan-held _ (subst (WholeTells (whole_of c.args.file.now)) c.in-Ok.is c.judge_file.ensures) in
    let r = c.run_plan-in_work in (
      omega (arith, r.auto.work, c.last_words-last.ensures, (last_fits h c.if-work-room.false).inside),
      omega (arith, r.auto.spare, c.last_words-last.ensures, (last_fits h c.if-spare-room.false).inside),
    )

pub offset_bounds-work-last : goal.offset_bounds-work-last
offset_bounds-work-last c =
    let h = plan-held _ (subst (WholeTells (whole_of c.args.file.now)) c.in-Ok.is c.judge_file.ensures) in
    omega (arith, c.last_words-last.ensures, (last_fits h c.if-work-room.false).few)

pub slice_bounds-fill-count : goal.slice_bounds-fill-count
slice_bounds-fill-count c =
    let h = plan-held _ (subst (WholeTells (whole_of c.args.file.now)) c.in-Ok.is c.judge_file.ensures) in
    omega (
      arith,
      c.bring_home.auto.work,
      c.run_plan-in_work.auto.work,
      c.last_words-last.ensures,
      (last_fits h c.if-work-room.false).inside,
    )

pub slice_bounds-fill-start : goal.slice_bounds-fill-start
slice_bounds-fill-start c =
    let h = plan-held _ (subst (WholeTells (whole_of c.args.file.now)) c.in-Ok.is c.judge_file.ensures) in
    omega (
      arith,
      c.bring_home.auto.work,
      c.run_plan-in_work.auto.work,
      c.last_words-last.ensures,
      (last_fits h c.if-work-room.false).inside,
    )

pub returns : goal.returns
returns c =
    let g = c.bring_home in
    let r = c.run_plan-in_work in
    let work = c.args.work.now in
    let spare = c.args.spare.now in
    let h = plan-held _ (subst (WholeTells (whole_of c.args.file.now)) c.in-Ok.is c.judge_file.ensures) in
    let w : room h.0 ≤ length work = omega (arith, h.2.room_is, c.if-work-room.false) in
    let q : room h.0 ≤ length spare = omega (arith, h.2.room_is, c.if-spare-room.false) in
    let lw = g.auto.work ∙ r.auto.work in
    let b : c.last_words-last.result ≤ length g.new.work =
    omega (arith, lw, c.last_words-last.ensures, (last_fits h c.if-work-room.false).inside) in
    let e = c.last_words-last.ensures ∙ last-size h work in
    let f = ap (λ (n : ℕ). take n g.new.work) (sym e) ∙ g.ensures.work_after
    ∙ ap (λ (n : ℕ). take n (pick r.result r.new.work r.new.spare)) e
    ∙ r.ensures h.0 h.1 in
    run-promise _ _ _ _ (λ i. search rules)
    (finishes _ work spare h.1 (w, q) h.2.moved_is (cleared-behind _ work _ _ _ e b lw f (c.fill.ensures.after (λ y e. e)))
    (g.ensures.spare_after ∙ ap (λ (n : ℕ). replicate n 0) r.auto.spare))
