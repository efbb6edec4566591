use native.Mathlib.Omega.{arith}
use Prim.Native.Nat.{ℕ, ◌+◌, ◌-◌}
use mathlib.Core.Path.{◌≡◌, ◌∙◌}
use mathlib.Core.List.{List}
use lib.ListN.{length, take, drop}
use Rattle.laws.proofs.Fronts.{tail_all}
use Rattle.strided.specs.Strided.{digit_room}
use Rattle.strided.proofs.Joins.{copy-alike, copied-alike}
use Rattle.strided.proofs.copy_digits.Goals as goal

-- the joined digits, as they are lent
lent : (first : ℕ) (joined : List ℕ) → length joined ≡ digit_room + 3 → take (digit_room + 3 - first) (drop first joined) ≡ drop first joined
lent first joined h = tail_all joined first (digit_room + 3 - first) (omega arith)

pub copy_strided-requires : goal.copy_strided-requires
copy_strided-requires c =
    let r = c.join_digits-first in
    rw (lent r.result r.new.joined r.auto.joined) (copy-alike c.requires.copy r.ensures)

pub returns : goal.returns
returns c =
    let j = c.join_digits-first in
    rw (lent j.result j.new.joined j.auto.joined) at c.copy_strided.ensures ∙ copied-alike c.requires.copy j.ensures 0 c.args.from.now
