use Rattle.std.proofs.Common.{◌≡◌, ◌∷◌, ◌+◌, ◌/◌, ℕ, List, length, drop, refl, sym, ap, subst, ◌∙◌}
use Rattle.std.specs.List.{All}
use Rattle.std.proofs.lemmas.Bool.{eqb-true}
use Rattle.std.proofs.lemmas.List.Elements.{All-take, All-drop}
use Rattle.ods_header.specs.declared.header.Header.{Header}
use Rattle.ods_header.specs.declared.header.Run.{Run}
use Rattle.ods_header.specs.Header.{IsRun, header_of, segment_of, room_of}
use Rattle.ods_space.specs.Layout.{header_at}
use Rattle.ods_space.specs.Draft.{applied}
use Rattle.ods_alloc.specs.Extension.{MakesHeaders, WritesHeaders, first_number}
use Rattle.ods_header.specs.Pointing.{IsGrown}
use Rattle.ods_alloc.proofs.NewHeaders.{sequence_fits}
use Rattle.ods_alloc.proofs.Places.{place_inside}
use Rattle.ods_alloc.proofs.Written.{can_be_made, headers_written, no_fault, none_new, rest_of}
use Rattle.ods_alloc.proofs.headers.write_headers.Goals as goal
use Rattle.ods_alloc.proofs.headers.write_headers.Goals.{After-renew}

-- behind the last header, as it is written, the new ones are made
made_behind : (c : After-renew) → let B = applied c.args.disk.now.image.now c.args.draft.now in let L = c.args.disk.now.layout.now in let z = c.args.end in
    (first : Header) (rest : List Run) (segment : ℕ) (J : List (List ℕ)) → header_of (header_at B L c.args.number) ≡ first → rest ≡ drop (room_of (header_at B L z) / 2) c.args.runs.now → segment ≡ segment_of (header_at B L z)
    → ((K : List (List ℕ)) → applied K c.renew.new.self ≡ applied K ((c.in-Some.lbn, c.grown_last-grown.result) ∷ c.args.draft.now))
    → MakesHeaders (applied c.args.disk.now.image.now c.renew.new.self) L first (segment + 1) c.args.numbers.now rest (length c.args.numbers.now) J
    → WritesHeaders B L c.args.number z c.args.numbers.now c.args.runs.now J
made_behind c = λ first rest segment J is left at set.
    let I = c.args.disk.now.image.now in
    let L = c.args.disk.now.layout.now in
    let B = applied I c.args.draft.now in
    let z = c.args.end in
    let numbers = c.args.numbers.now in
    let runs = c.args.runs.now in
    let next = c.first_id-next.result in
    let found = sym c.place.ensures ∙ c.in-Some.is in
    let P : List ℕ → Type 0 = λ b. IsGrown b runs next.number next.sequence c.grown_last-grown.result in
    let Q : ℕ → Type 0 = λ n. IsGrown (header_at B L z) runs n next.sequence c.grown_last-grown.result in
    let R : ℕ → Type 0 = λ s. IsGrown (header_at B L z) runs (first_number numbers) s c.grown_last-grown.result in
    headers_written first I B J c.args.draft.now c.renew.new.self L c.args.number z c.in-Some.lbn numbers runs rest segment c.grown_last-grown.result
    c.requires.places.places c.requires.apart (place_inside _ L z c.in-Some.lbn c.requires.places found) found
    refl (set I)
    (subst R c.first_id-next.ensures.sequence (subst Q c.first_id-next.ensures.number (subst P c.requires.last.is c.grown_last-grown.ensures.grown)))
    left at is

pub first_id-next-requires-clause-few : goal.first_id-next-requires-clause-few
first_id-next-requires-clause-few c = sequence_fits _ c.args.disk.now.layout.now c.args.numbers.now 0 c.requires.new

pub returns-then-is_empty : goal.returns-then-is_empty
returns-then-is_empty c =
    let I = c.args.disk.now.image.now in
    let L = c.args.disk.now.layout.now in
    let B = applied I c.args.draft.now in
    let h = header_at B L c.args.end in
    let J = applied I c.renew.new.self in
    let rest = drop (room_of h / 2) c.args.runs.now in
    let first = header_of (header_at B L c.args.number) in
    made_behind (goal.at.returns-then-is_empty c).After-renew first rest (segment_of h) J refl refl refl c.in_ok-renew.ensures.ok
    (none_new J L first (segment_of h + 1) c.args.numbers.now rest (eqb-true (length c.args.numbers.now) 0 (sym c.is_empty.ensures ∙ c.if-is_empty.true)))

pub returns-in_default-read_header : goal.returns-in_default-read_header
returns-in_default-read_header c =
    absurd (no_fault _ c.args.number c.in_default-read_header.field-0 c.in_default-read_header.ensures.err c.requires.first.valid)

pub write_extensions-requires-clause-new : goal.write_extensions-requires-clause-new
write_extensions-requires-clause-new c =
    let I = c.args.disk.now.image.now in
    can_be_made I (applied I c.args.draft.now) c.args.draft.now c.renew.new.self c.args.disk.now.layout.now c.args.end c.in-Some.lbn c.args.numbers.now c.grown_last-grown.result c.requires.places.places c.requires.apart
    (sym c.place.ensures ∙ c.in-Some.is) refl (c.in_ok-renew.ensures.ok I) c.requires.new

pub write_extensions-requires-clause-runs : goal.write_extensions-requires-clause-runs
write_extensions-requires-clause-runs c =
    let P : List Run → Type 0 = λ rs. All IsRun rs in
    let runs = c.args.runs.now in
    subst P (sym c.piece-rest.ensures) (All-take IsRun (length runs) (drop c.room.result runs) (All-drop IsRun c.room.result runs c.requires.runs))

pub returns : goal.returns
returns c =
    let I = c.args.disk.now.image.now in
    let L = c.args.disk.now.layout.now in
    let B = applied I c.args.draft.now in
    let first : header_of (header_at B L c.args.number) ≡ c.in-Ok.fields = ap header_of (sym c.requires.first.is) ∙ sym c.in-Ok.ensures.ok.1 in
    made_behind (goal.at.returns c).After-renew c.in-Ok.fields c.piece-rest.result.now c.segment.result (applied I c.write_extensions.new.draft) first
    (c.piece-rest.ensures ∙ rest_of c.args.runs.now (room_of (header_at B L c.args.end) / 2) c.room.result (c.room.ensures ∙ ap (λ b. room_of b / 2) c.requires.last.is))
    (c.segment.ensures ∙ ap segment_of c.requires.last.is)
    c.in_ok-renew.ensures.ok c.in_ok-write_extensions.ensures
