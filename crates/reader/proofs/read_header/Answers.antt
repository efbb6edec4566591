use mathlib.Core.Bool.{true}
use mathlib.Core.Path.{◌≡◌, sym, ap, ◌∙◌}
use native.Mathlib.Omega.{arith}
use Rattle.rules.specs.Limits.{present}
use Rattle.rules.specs.Refusals.{accept}
use Rattle.rules.specs.PlanFile.{edition, axis_count, rank_count, edition_known, axes_allowed, rank_allowed}
use Rattle.reader.specs.declared.Header.{Header}
use Rattle.reader.proofs.Answers.{refused-so}
use Rattle.reader.proofs.Heading.{in-range, Framed, too_short, too_long, unknown-edition, wrong-length, axes-outside, rank-outside, steps-outside, header-whole}
use Rattle.reader.proofs.read_header.Goals as goal
use Rattle.reader.proofs.read_header.Goals.{After-contains, After-contains-2, After-contains-3, Else-u16_at-file}

-- the tests of the edition, of the axis count and of the rank
known? : (c : After-contains) → c.contains.result ≡ edition_known present (edition c.args.file.now)
known? c =
    in-range _ _ c.new.ensures.start c.new.ensures.end c.new.ensures.exhausted c.contains.ensures.value
    ∙ ap (λ (h : Header). edition_known present h.edition) c.numbers_of-header.ensures

axes? : (c : After-contains-2) → c.contains-2.result ≡ axes_allowed (axis_count c.args.file.now)
axes? c =
    in-range _ _ c.new-2.ensures.start c.new-2.ensures.end c.new-2.ensures.exhausted c.contains-2.ensures.value
    ∙ ap (λ (h : Header). axes_allowed h.axes) c.numbers_of-header.ensures

rank? : (c : After-contains-3) → c.contains-3.result ≡ rank_allowed (rank_count c.args.file.now)
rank? c =
    in-range _ _ c.new-3.ensures.start c.new-3.ensures.end c.new-3.ensures.exhausted c.contains-3.ensures.value
    ∙ ap (λ (h : Header). rank_allowed h.rank) c.numbers_of-header.ensures

framed : (c : Else-u16_at-file) → edition_known present (edition c.args.file.now) ≡ true → Framed c.args.file.now
framed c e = record { long = omega arith; short = omega arith; known = e; whole = omega arith }

pub returns-then-file-lt-LEAST : goal.returns-then-file-lt-LEAST
returns-then-file-lt-LEAST c = refused-so c.outside.ensures (too_short _ (omega arith))

pub returns-then-file-gt-MOST : goal.returns-then-file-gt-MOST
returns-then-file-gt-MOST c = refused-so c.outside-then-file-gt-MOST.ensures (too_long _ (omega arith) (omega arith))

pub returns-then-not-contains : goal.returns-then-not-contains
returns-then-not-contains c = let at = goal.at.returns-then-not-contains c in
    refused-so c.outside-then-not-contains.ensures (unknown-edition _ (omega arith) (omega arith) (sym (known? at.After-contains) ∙ c.if-not-contains.true))

pub returns-then-u16_at-file : goal.returns-then-u16_at-file
returns-then-u16_at-file c = let at = goal.at.returns-then-u16_at-file c in
    refused-so c.outside-then-u16_at-file.ensures (wrong-length _ (omega arith) (omega arith) (sym (known? at.After-contains) ∙ c.if-not-contains.false) (omega arith))

pub returns-then-not-contains-2 : goal.returns-then-not-contains-2
returns-then-not-contains-2 c = let at = goal.at.returns-then-not-contains-2 c in
    refused-so c.outside-then-not-contains-2.ensures (axes-outside _ (framed at.Else-u16_at-file (sym (known? at.After-contains) ∙ c.if-not-contains.false)) (sym (axes? at.After-contains-2) ∙ c.if-not-contains-2.true))

pub returns-then-not-contains-3 : goal.returns-then-not-contains-3
returns-then-not-contains-3 c = let at = goal.at.returns-then-not-contains-3 c in
    refused-so c.outside-then-not-contains-3.ensures
    (rank-outside _ (framed at.Else-u16_at-file (sym (known? at.After-contains) ∙ c.if-not-contains.false)) (sym (axes? at.After-contains-2) ∙ c.if-not-contains-2.false) (sym (rank? at.After-contains-3) ∙ c.if-not-contains-3.true))

pub returns-then-header-gt-MOST : goal.returns-then-header-gt-MOST
returns-then-header-gt-MOST c = let at = goal.at.returns-then-header-gt-MOST c in
    let many = ap (λ (h : Header). h.steps) c.numbers_of-header.ensures in
    refused-so c.outside-then-header-gt-MOST.ensures
    (steps-outside _ (framed at.Else-u16_at-file (sym (known? at.After-contains) ∙ c.if-not-contains.false)) (sym (axes? at.After-contains-2) ∙ c.if-not-contains-2.false) (sym (rank? at.After-contains-3) ∙ c.if-not-contains-3.false)
    (omega (arith, many)))

pub returns : goal.returns
returns c = let at = goal.at.returns c in
    let few = ap (λ (h : Header). h.steps) c.numbers_of-header.ensures in
    ap accept c.numbers_of-header.ensures
    ∙ sym (header-whole _ (framed at.Else-u16_at-file (sym (known? at.After-contains) ∙ c.if-not-contains.false)) (sym (axes? at.After-contains-2) ∙ c.if-not-contains-2.false) (sym (rank? at.After-contains-3) ∙ c.if-not-contains-3.false)
    (omega (arith, few)))
