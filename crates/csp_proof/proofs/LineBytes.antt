-- The text of a valid line has spaces and visible ASCII characters alone: no line feed is among them.
use Rattle.std.proofs.Common.{arith, ◌≡◌, refl, ℕ, ◌<◌, ◌^◌, true, List, [], ◌∷◌, length, get_or, All, inl, inr}
use Rattle.std.specs.Prelude.{codes, decimal}
use Rattle.std.specs.List.{list_all, join_with_byte}
use Rattle.std.specs.Str.{IsAscii, IsUtf8}
use Rattle.std.specs.Str.Parse.{AllDigits}
use Rattle.std.proofs.lemmas.Bool.{and_parts, cases_lt}
use Rattle.std.proofs.lemmas.Bool.Decides.{nat_tests}
use Rattle.std.proofs.lemmas.Fmt.{decimal_is_IsNumeral}
use Rattle.std.proofs.lemmas.List.{get_or_past}
use Rattle.std.proofs.lemmas.List.Elements.{All-nil, All-cons, All-append, All-weaker, All-from_get_or, All-get_or, All-head, All-tail}
use Rattle.std.proofs.lemmas.List.Sums.{AllPass-from_list_all}
use Rattle.std.proofs.lemmas.Str.{IsUtf8-from_ascii}
use Rattle.std.proofs.lemmas.Str.Parse.{digit_at}
use Rattle.csp_facts.specs.Spelling.{is_visible}
use Rattle.csp_facts.proofs.SpelledWords.{IsWord}
use Rattle.csp_facts.proofs.Spelling.{words}
use Rattle.csp_proof.specs.Reading.{IsValidLine}
use Rattle.csp_proof.specs.Spelling.{line_text}
use Rattle.csp_proof.specs.declared.line.ProofLine.{ProofLine}
use Rattle.csp_proof.specs.declared.line.ProofLine.TheVariants as line
use Rattle.csp_proof.specs.declared.proof.Format.TheVariants.{One, Two}
use Rattle.csp_proof.specs.declared.proof.Node.TheVariants as node

pub record IsPlain (c : ℕ) : Type 0 where
  pub low : 31 < c
  pub high : c < 128

visible_plain : (c : ℕ) → is_visible c ≡ true → IsPlain c
visible_plain c h = record { low = grind (arith, nat_tests); high = grind (arith, nat_tests) }

word_plain : (word : List ℕ) → IsWord word → All IsPlain word
word_plain word h = All-weaker (λ c. is_visible c ≡ true) IsPlain visible_plain word (AllPass-from_list_all is_visible word (and_parts _ (list_all is_visible word) h).1)

digit_plain : (text : List ℕ) (i : ℕ) → AllDigits 10 text → i < length text → IsPlain (get_or text i 0)
digit_plain text i digits within = let digit = digit_at text i digits within in record { low = omega arith; high = omega arith }

decimal_plain : (n : ℕ) → n < 2 ^ 64 → All IsPlain (decimal n)
decimal_plain n small = let numeral = decimal_is_IsNumeral n small in All-from_get_or IsPlain (decimal n) 0 (λ i within. digit_plain (decimal n) i numeral.0.1 within)

join_plain : (ws : List (List ℕ)) → All (All IsPlain) ws → All IsPlain (join_with_byte 32 ws)
join_plain [] each = All-nil IsPlain
join_plain (w ∷ []) each = All-head (All IsPlain) w [] each
join_plain (w ∷ v ∷ ws) each =
    All-append IsPlain w (32 ∷ join_with_byte 32 (v ∷ ws)) (All-head (All IsPlain) w (v ∷ ws) each)
    (All-cons IsPlain 32 (join_with_byte 32 (v ∷ ws)) (record { low = omega arith; high = omega arith }) (join_plain (v ∷ ws) (All-tail (All IsPlain) w (v ∷ ws) each)))

two : (v w : List ℕ) → All IsPlain v → All IsPlain w → All (All IsPlain) (v ∷ w ∷ [])
two v w first second = All-cons (All IsPlain) v (w ∷ []) first (All-cons (All IsPlain) w [] second (All-nil (All IsPlain)))

pub plain_line : (l : ProofLine) → IsValidLine l → All IsPlain (line_text l)
plain_line (line.Head One) valid = join_plain (codes "csp-proof" ∷ codes "1" ∷ []) (two (codes "csp-proof") (codes "1") (word_plain (codes "csp-proof") refl) (word_plain (codes "1") refl))
plain_line (line.Head Two) valid = join_plain (codes "csp-proof" ∷ codes "2" ∷ []) (two (codes "csp-proof") (codes "2") (word_plain (codes "csp-proof") refl) (word_plain (codes "2") refl))
plain_line (line.Tree shape policy) valid =
    join_plain (codes "tree" ∷ decimal shape ∷ decimal policy ∷ [])
    (All-cons (All IsPlain) (codes "tree") (decimal shape ∷ decimal policy ∷ []) (word_plain (codes "tree") refl)
    (two (decimal shape) (decimal policy) (decimal_plain shape (omega arith)) (decimal_plain policy (omega arith))))
plain_line (line.Same number) valid =
    join_plain (codes "same" ∷ decimal number ∷ []) (two (codes "same") (decimal number) (word_plain (codes "same") refl) (decimal_plain number (omega arith)))
plain_line (line.Node (node.Split atom)) valid =
    join_plain (codes "split" ∷ _) (All-cons (All IsPlain) (codes "split") _ (word_plain (codes "split") refl) (All-weaker IsWord (All IsPlain) word_plain _ (words atom valid)))
plain_line (line.Node (node.Blocked policy)) valid =
    join_plain (codes "blocked" ∷ decimal policy ∷ []) (two (codes "blocked") (decimal policy) (word_plain (codes "blocked") refl) (decimal_plain policy (omega arith)))
plain_line (line.Node node.Met) valid = word_plain (codes "met") refl
plain_line line.End valid = word_plain (codes "end") refl

ascii : (text : List ℕ) → All IsPlain text → IsAscii text
ascii text each i = elim (cases_lt i (length text)) [
  | inl within ↦ (All-get_or IsPlain text i 0 within each).high
  | inr past ↦ omega (arith, get_or_past text i 0 past)
]

pub utf8_line : (l : ProofLine) → IsValidLine l → IsUtf8 (line_text l)
utf8_line l valid = IsUtf8-from_ascii (line_text l) (ascii (line_text l) (plain_line l valid))
