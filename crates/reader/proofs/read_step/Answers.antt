use Prim.Native.Nat.{◌+◌}
use mathlib.Core.Path.{◌≡◌, refl, sym, ◌∙◌}
use borrow.Author.Tests.{lt-ltb}
use lib.ListN.{length}
use Rattle.rules.specs.PlanFile.{step_at, lists_of}
use Rattle.types.specs.Types.{kind_meaning}
use Rattle.reader.proofs.Answers.{refused-so, handed-on, kind-read, kind-unknown}
use Rattle.reader.proofs.Listing.{byte-is}
use Rattle.reader.proofs.Stepping.{no_kind}
use Rattle.reader.proofs.read_step.Goals as goal
use Rattle.reader.proofs.read_step.Goals.{In-Ok}

-- the step by its kind
kind-is : (c : In-Ok)
    → let a = c.args in
    step_at a.n a.rank a.k a.file.now a.at ≡ lists_of a.n a.rank a.k a.file.now (a.at + 1) (kind_meaning c.in-Ok.kind)
unfolding step_at
kind-is c = let b = byte-is c.in-Some.ensures.lookup.3 in
    rw (lt-ltb c.args.at (length c.args.file.now) b.inside, b.is, kind-read _ c.in-Ok.ensures) refl

pub returns-in_default : goal.returns-in_default
returns-in_default c = refused-so c.outside.ensures (no_kind _ _ _ _ _ c.in_default.ensures.lookup.3)

pub returns-in_default-try_from : goal.returns-in_default-try_from
unfolding step_at lists_of
returns-in_default-try_from c = let b = byte-is c.in-Some.ensures.lookup.3 in
    sym (rw (lt-ltb c.args.at (length c.args.file.now) b.inside, b.is, kind-unknown _ c.in_default-try_from.ensures) refl)

pub returns-in_err-read_lists-in-AllSlice : goal.returns-in_err-read_lists-in-AllSlice
unfolding lists_of
returns-in_err-read_lists-in-AllSlice c = let is = kind-is ((goal.at.returns-in_err-read_lists-in-AllSlice c).In-Ok) in
    handed-on _ _ _ c.from_residual.ensures.1 (is ∙ simp (c.in-AllSlice.is, sym c.in_err-read_lists-in-AllSlice.ensures))

pub returns-in_ok-read_lists-in-AllSlice : goal.returns-in_ok-read_lists-in-AllSlice
unfolding lists_of
returns-in_ok-read_lists-in-AllSlice c = let is = kind-is ((goal.at.returns-in_ok-read_lists-in-AllSlice c).In-Ok) in
    let m = c.map.ensures in
    rw (m.post, m.next) (sym (is ∙ simp (c.in-AllSlice.is, sym c.in_ok-read_lists-in-AllSlice.ensures)))

pub returns-in_err-read_lists-in-AllGather : goal.returns-in_err-read_lists-in-AllGather
unfolding lists_of
returns-in_err-read_lists-in-AllGather c = let is = kind-is ((goal.at.returns-in_err-read_lists-in-AllGather c).In-Ok) in
    handed-on _ _ _ c.from_residual-in_err-read_lists-in-AllGather.ensures.1 (is ∙ simp (c.in-AllGather.is, sym c.in_err-read_lists-in-AllGather.ensures))

pub returns-in_ok-read_lists-in-AllGather : goal.returns-in_ok-read_lists-in-AllGather
unfolding lists_of
returns-in_ok-read_lists-in-AllGather c = let is = kind-is ((goal.at.returns-in_ok-read_lists-in-AllGather c).In-Ok) in
    let m = c.map-in-AllGather.ensures in
    rw (m.post, m.next) (sym (is ∙ simp (c.in-AllGather.is, sym c.in_ok-read_lists-in-AllGather.ensures)))

pub returns-in_err-read_list-in-AllReduce : goal.returns-in_err-read_list-in-AllReduce
unfolding lists_of
returns-in_err-read_list-in-AllReduce c = let is = kind-is ((goal.at.returns-in_err-read_list-in-AllReduce c).In-Ok) in
    handed-on _ _ _ c.from_residual-in_err-read_list-in-AllReduce.ensures.1 (is ∙ simp (c.in-AllReduce.is, sym c.in_err-read_list-in-AllReduce.ensures))

pub returns-in_ok-read_list-in-AllReduce : goal.returns-in_ok-read_list-in-AllReduce
unfolding lists_of
returns-in_ok-read_list-in-AllReduce c = let is = kind-is ((goal.at.returns-in_ok-read_list-in-AllReduce c).In-Ok) in
    let m = c.map-in-AllReduce.ensures in
    rw (m.post, m.next) (sym (is ∙ simp (c.in-AllReduce.is, sym c.in_ok-read_list-in-AllReduce.ensures)))

pub returns-in_err-read_lists-in-ReduceScatter : goal.returns-in_err-read_lists-in-ReduceScatter
unfolding lists_of
returns-in_err-read_lists-in-ReduceScatter c = let is = kind-is ((goal.at.returns-in_err-read_lists-in-ReduceScatter c).In-Ok) in
    handed-on _ _ _ c.from_residual-in_err-read_lists-in-ReduceScatter.ensures.1 (is ∙ simp (c.in-ReduceScatter.is, sym c.in_err-read_lists-in-ReduceScatter.ensures))

pub returns-in_ok-read_lists-in-ReduceScatter : goal.returns-in_ok-read_lists-in-ReduceScatter
unfolding lists_of
returns-in_ok-read_lists-in-ReduceScatter c = let is = kind-is ((goal.at.returns-in_ok-read_lists-in-ReduceScatter c).In-Ok) in
    let m = c.map-in-ReduceScatter.ensures in
    rw (m.post, m.next) (sym (is ∙ simp (c.in-ReduceScatter.is, sym c.in_ok-read_lists-in-ReduceScatter.ensures)))

pub returns-in-AllToAll : goal.returns-in-AllToAll
returns-in-AllToAll c = let is = kind-is ((goal.at.returns-in-AllToAll c).In-Ok) in
    c.read_all_to_all.ensures c.args.rank c.args.k ∙ sym (rw c.in-AllToAll.is at is)
