-- A text of strands, to which own bytes, endings and a strand are added.
use Rattle.std.proofs.Common.{◌≡◌, ◌≤◌, ◌<◌, ◌-◌, ℕ, List, [], ◌∷◌, ◌++◌, length, take, drop, Option, Some, None}
use Rattle.std.proofs.Common.{refl, sym, ap, ◌∙◌, arith, append-nil, append_assoc, length-append, length-drop}
use Rattle.std.proofs.lemmas.List.{take-append-drop, take-append-le, drop-append-le, take_all, get_or_append_left}
use Rattle.std.proofs.Math.Seq.{drop-append_seam}
use Rattle.std.proofs.lemmas.List.Concat.{flat_map-append}
use Rattle.std.proofs.lemmas.List.Elements.{All-head, All-tail, All-weaker, All-push}
use Rattle.std.specs.Prelude.{IfSome, slice_range}
use Rattle.std.specs.List.{flat_map, All}
use Rattle.csp_model.specs.declared.verdict.Violation.{Violation}
use Rattle.csp_desk.specs.Report.{report_front}
use Rattle.csp_desk.proofs.Parts.{report_parts}
use Rattle.csp_desk.specs.Texts.{report_line}
use Rattle.csp_desk.specs.Weaves.{IsWithin, ending_at, ending_of, strand_text}
use Rattle.csp_desk.specs.declared.weave.Strand.{Strand}

-- A line is what is blocked and its ending.
pub line_parts : (v : Violation) → report_front v.blocked_uri ++ ending_of v ≡ report_line v
line_parts v = rw (report_parts v) (sym (append_assoc (report_front v.blocked_uri) _ _))

-- It is what own bytes gained by the one, and the other.
pub front_and_ending : (own now uri ending : List ℕ) (v : Violation) → now ≡ own ++ report_front uri
    → uri ≡ v.blocked_uri → ending ≡ ending_of v → drop (length own) now ++ ending ≡ report_line v
front_and_ending own now uri ending v is same found =
    rw (is, same, found, drop-append_seam own (report_front v.blocked_uri)) (line_parts v)

-- Lists that grew

pub grown : {X : Type 0} (old now : List X) → take (length old) now ≡ old → now ≡ old ++ drop (length old) now
grown old now kept =
    sym (take-append-drop (length old) now) ∙ ap (λ l. l ++ drop (length old) now) kept

longer : {X : Type 0} (old now : List X) → take (length old) now ≡ old → length old ≤ length now
longer old now kept = omega (arith, ap length (grown old now kept), length-append old (drop (length old) now))

range_kept : (own more : List ℕ) (start end : ℕ) → start ≤ end → end ≤ length own
    → slice_range (own ++ more) start end ≡ slice_range own start end
range_kept own more start end order within =
    rw (drop-append-le start own more (omega arith))
    (take-append-le (end - start) (drop start own) more (omega (arith, length-drop start own)))

ending_kept : (endings more : List (List ℕ)) (ending : Option ℕ) → IfSome ending (λ place. place < length endings)
    → ending_at (endings ++ more) ending ≡ ending_at endings ending
ending_kept endings more (Some place) within = get_or_append_left endings more [] place within
ending_kept endings more None within = refl

among_more : (few many : ℕ) (ending : Option ℕ) → few ≤ many → IfSome ending (λ place. place < few)
    → IfSome ending (λ place. place < many)
among_more few many (Some place) more within = omega (arith, within, more)
among_more few many None more within = tt

-- Strands of what grew

within_more : (size larger few many : ℕ) (s : Strand) → size ≤ larger → few ≤ many → IsWithin size few s
    → IsWithin larger many s
within_more size larger few many s own endings within = record {
  order = within.order;
  own = omega (arith, within.own, own);
  ending = among_more few many s.ending endings within.ending;
}

strand_kept : (own now : List ℕ) (endings endings_now : List (List ℕ)) (s : Strand) → take (length own) now ≡ own
    → take (length endings) endings_now ≡ endings → IsWithin (length own) (length endings) s
    → strand_text now endings_now s ≡ strand_text own endings s
strand_kept own now endings endings_now s kept endings_kept within =
    rw (
      grown own now kept,
      grown endings endings_now endings_kept,
      range_kept own (drop (length own) now) s.start s.end within.order within.own,
      ending_kept endings (drop (length endings) endings_now) s.ending within.ending,
    ) refl

pub all_within : (own now : List ℕ) (endings endings_now : List (List ℕ)) (strands : List Strand)
    → take (length own) now ≡ own → take (length endings) endings_now ≡ endings
    → All (IsWithin (length own) (length endings)) strands
    → All (IsWithin (length now) (length endings_now)) strands
all_within own now endings endings_now strands kept endings_kept all =
    All-weaker _ _
    (λ s within. within_more _ _ _ _ s (longer own now kept) (longer endings endings_now endings_kept) within)
    strands all

pub all_kept : (own now : List ℕ) (endings endings_now : List (List ℕ)) (strands : List Strand)
    → take (length own) now ≡ own → take (length endings) endings_now ≡ endings
    → All (IsWithin (length own) (length endings)) strands
    → flat_map (strand_text now endings_now) strands ≡ flat_map (strand_text own endings) strands
all_kept own now endings endings_now [] kept endings_kept all = refl
all_kept own now endings endings_now (s ∷ strands) kept endings_kept all =
    let P : Strand → Type 0 = IsWithin (length own) (length endings) in
    let here = strand_kept own now endings endings_now s kept endings_kept (All-head P s strands all) in
    let rest = all_kept own now endings endings_now strands kept endings_kept (All-tail P s strands all) in
    rw (here, rest) refl

-- One strand more

-- what own bytes gained, up to their end
pub gained : (own now : List ℕ) → slice_range now (length own) (length now) ≡ drop (length own) now
gained own now =
    take_all (length now - length own) (drop (length own) now) (omega (arith, length-drop (length own) now))

pub one_strand_more : (own now : List ℕ) (endings endings_now : List (List ℕ)) (strands : List Strand) (s : Strand)
    (line : List ℕ) → take (length own) now ≡ own → take (length endings) endings_now ≡ endings
    → All (IsWithin (length own) (length endings)) strands → strand_text now endings_now s ≡ line
    → flat_map (strand_text now endings_now) (strands ++ s ∷ []) ≡ flat_map (strand_text own endings) strands ++ line
one_strand_more own now endings endings_now strands s line kept endings_kept all is =
    flat_map-append (strand_text now endings_now) strands (s ∷ [])
    ∙ rw (all_kept own now endings endings_now strands kept endings_kept all, append-nil (strand_text now endings_now s), is)
    refl

pub new_strand : (own now : List ℕ) (endings : List (List ℕ)) (s : Strand) (line : List ℕ) → s.start ≡ length own
    → s.end ≡ length now → drop (length own) now ++ ending_at endings s.ending ≡ line
    → strand_text now endings s ≡ line
new_strand own now endings s line start end is = rw (start, end, gained own now) is

pub all_and_new : (own now : List ℕ) (endings endings_now : List (List ℕ)) (strands : List Strand) (s : Strand)
    → take (length own) now ≡ own → take (length endings) endings_now ≡ endings
    → All (IsWithin (length own) (length endings)) strands → s.start ≡ length own → s.end ≡ length now
    → IfSome s.ending (λ place. place < length endings_now)
    → All (IsWithin (length now) (length endings_now)) (strands ++ s ∷ [])
all_and_new own now endings endings_now strands s kept endings_kept all start end among =
    All-push (IsWithin (length now) (length endings_now)) strands s
    (all_within own now endings endings_now strands kept endings_kept all)
    (record { order = omega (arith, start, end, longer own now kept); own = omega (arith, end); ending = among })
