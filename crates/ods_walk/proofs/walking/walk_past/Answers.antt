use Rattle.std.proofs.Common.{rules, ◌≡◌, ◌<◌, sym, ap, ◌∙◌, subst, [], ◌∷◌, ◌++◌, set, map, length, true, arith}
use Rattle.std.specs.Prelude.{IfSome, IfNone, None}
use Rattle.std.proofs.lemmas.List.{append-nil}
use Rattle.ods_walk.specs.Steps.{AreEntered, IsPast, IsStop, from_top, placed}
use Rattle.ods_walk.proofs.Flagged.{entered_more, fewer_left}
use Rattle.ods_walk.proofs.Going.{IsUnderWay, arrived, entering, begins}
use Rattle.ods_walk.proofs.Reaching.{reaches_all}
use Rattle.ods_walk.proofs.walking.walk_past.Goals as goal
use Rattle.ods_walk.proofs.walking.walk_past.Goals.{In-Some, In_default}

pub directories-init : goal.directories-init
directories-init c =
    let start = c.args.start in
    let small : start < 65536 = c.ranges.start.fits in
    let shut = c.in_ok-is_entered.is_entered.items in
    let entered : AreEntered shut c.args.closed.now = c.in_ok-is_entered.ensures in
    let two = entered_more (set shut 4 true) (4 ∷ c.args.closed.now) start small (entered_more shut c.args.closed.now 4 (omega arith) entered) in
    let put = c.in_ok-put_lines.ensures in
    let order : from_top c.put_lines.new.pile.items ≡ map (placed 0) put.0 = put.2 ∙ ap (λ p. map (placed 0) put.0 ++ from_top p) c.new-pile.ensures.items ∙ append-nil (map (placed 0) put.0) in
    let table : c.push.new.self.items ≡ record { number = start; from = None } ∷ [] = c.in_ok-push.ensures.items ∙ ap (λ l. l ++ record { number = start; from = None } ∷ []) c.new-directories.ensures.items in
    let flags = set (set shut 4 true) start true in
    let begun = begins c.args.disk.now.image.now c.args.disk.now.layout.now start c.args.closed.now flags c.put_lines.new.pile.items put.0 two put.1 order in
    subst (λ t. IsUnderWay c.args.disk.now.image.now c.args.disk.now.layout.now start c.args.closed.now t c.new-lines.result.items flags c.put_lines.new.pile.items) (sym table)
    (subst (λ l. IsUnderWay c.args.disk.now.image.now c.args.disk.now.layout.now start c.args.closed.now (record { number = start; from = None } ∷ []) l flags c.put_lines.new.pile.items) (sym c.new-lines.ensures.items) begun)

-- where the walk stops at a directory
stopped : (c : In-Some) → IsStop c.args.disk.now.image.now c.args.disk.now.layout.now c.directories.is_entered.items c.directories.pile.items c.directories.lines.items c.next_directory.new.pile.items c.next_directory.new.lines.items c.in-Some.line
stopped c =
    subst (λ f. IsStop c.args.disk.now.image.now c.args.disk.now.layout.now f c.directories.pile.items c.directories.lines.items c.next_directory.new.pile.items c.next_directory.new.lines.items c.in-Some.line) c.deref.ensures.value
    (subst (λ r. IfSome r (IsStop c.args.disk.now.image.now c.args.disk.now.layout.now c.deref.result.now c.directories.pile.items c.directories.lines.items c.next_directory.new.pile.items c.next_directory.new.lines.items)) c.in-Some.is c.in_ok-line.ensures.some)

pub put_lines-requires-in-Some : goal.put_lines-requires-in-Some
put_lines-requires-in-Some c =
    let u = c.directories.invariant in
    ((stopped (goal.at.put_lines-requires-in-Some c).In-Some).into u.entered u.are).0.file

pub directories-smaller : goal.directories-smaller
directories-smaller c =
    let u = c.directories.invariant in
    let small : c.in-Some.line.entry.file.number < 65536 = search rules in
    fewer_left c.directories.is_entered.items u.entered c.in-Some.line.entry.file.number small u.are ((stopped (goal.at.directories-smaller c).In-Some).into u.entered u.are).1

pub directories-preserved : goal.directories-preserved
directories-preserved c =
    let u = c.directories.invariant in
    let n = c.in-Some.line.entry.file.number in
    let small : n < 65536 = search rules in
    let size : c.len.result ≡ length c.directories.directories.items = search rules in
    let put = c.in_ok-put_lines-2.ensures in
    let order : from_top c.put_lines-in-Some.new.pile.items ≡ map (placed (length c.directories.directories.items)) put.0 ++ from_top c.next_directory.new.pile.items =
    put.2 ∙ ap (λ k. map (placed k) put.0 ++ from_top c.next_directory.new.pile.items) size in
    subst (λ t. IsUnderWay c.args.disk.now.image.now c.args.disk.now.layout.now c.args.start c.args.closed.now t c.next_directory.new.lines.items (set c.directories.is_entered.items n true) c.put_lines-in-Some.new.pile.items) (sym c.in_ok-push-2.ensures.items)
    (entering u (stopped (goal.at.directories-preserved c).In-Some) c.put_lines-in-Some.new.pile.items put.0 small put.1 order)

-- where no line is left
past : (c : In_default) → IsPast c.args.disk.now.image.now c.args.disk.now.layout.now c.directories.is_entered.items c.directories.pile.items c.directories.lines.items c.next_directory.new.lines.items
past c =
    subst (λ f. IsPast c.args.disk.now.image.now c.args.disk.now.layout.now f c.directories.pile.items c.directories.lines.items c.next_directory.new.lines.items) c.deref.ensures.value
    (subst (λ r. IfNone r (IsPast c.args.disk.now.image.now c.args.disk.now.layout.now c.deref.result.now c.directories.pile.items c.directories.lines.items c.next_directory.new.lines.items)) c.in_default.is c.in_ok-line.ensures.none)

pub returns-clause-walk : goal.returns-clause-walk
returns-clause-walk c = arrived c.directories.invariant c.next_directory.new.lines.items (past (goal.at.returns-clause-walk c).In_default)

pub returns-clause-reached : goal.returns-clause-reached
returns-clause-reached c =
    let u = c.directories.invariant in
    reaches_all u.reaching ((past (goal.at.returns-clause-reached c).In_default).are u.entered u.are)
