use Prim.Native.Nat.{◌<◌}
use mathlib.Core.Path.{sym, ◌∙◌}
use borrow.Author.Tests.{lt-ltb, le-leb, lt-leb}
use Rattle.axes.proofs.Naming.{marked-is}
use Rattle.start.proofs.judge_axis.Goals as goal

pub returns-then-is_marked : goal.returns-then-is_marked
returns-then-is_marked c = let a = c.args in
    let h : a.a.0 < a.n = c.if-n-i.false in
    simp (c.outside-then-is_marked.ensures, lt-ltb _ _ h, marked-is a.a.0 a.marks.now, sym c.is_marked.ensures, c.if-is_marked.true)

pub returns-then-i-low : goal.returns-then-i-low
returns-then-i-low c = let a = c.args in
    let h : a.a.0 < a.n = c.if-n-i.false in
    simp (c.outside-then-i-low.ensures, lt-ltb _ _ h, marked-is a.a.0 a.marks.now ∙ sym c.is_marked.ensures ∙ c.if-is_marked.false, lt-leb _ _ c.if-i-low.true)

pub returns : goal.returns
returns c = let a = c.args in
    let h : a.a.0 < a.n = c.if-n-i.false in
    simp (lt-ltb _ _ h, marked-is a.a.0 a.marks.now ∙ sym c.is_marked.ensures ∙ c.if-is_marked.false, le-leb _ _ c.if-i-low.false)
