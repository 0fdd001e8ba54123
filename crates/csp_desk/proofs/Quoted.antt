-- A text of plain bytes is its own escape.
use Rattle.std.proofs.Common.{◌≡◌, ℕ, true, List, [], ◌∷◌, ◌++◌, refl, append-nil, append_assoc}
use Rattle.std.proofs.lemmas.Bool.{and_parts, not-true, eqb-false, ltb-false}
use Rattle.json.proofs.Printed.Strings.{escape_byte_plain}
use Rattle.json.specs.Print.{escape, escape_byte, quoted, print, print_from}
use Rattle.json.specs.Token.{Token, string}
use Rattle.csp_desk.specs.Plain.{is_plain, are_plain}

plain_byte : (b : ℕ) → is_plain b ≡ true → escape_byte b ≡ b ∷ []
plain_byte b plain =
    let wide = and_parts _ _ plain in
    let others = and_parts _ _ wide.1 in
    escape_byte_plain b (eqb-false b 34 (not-true _ others.0)) (eqb-false b 92 (not-true _ others.1))
    (ltb-false b 32 (not-true _ wide.0))

escape_plain : (text : List ℕ) → are_plain text ≡ true → escape text ≡ text
escape_plain [] plain = refl
escape_plain (b ∷ text) plain =
    let both = and_parts _ _ plain in
    rw (plain_byte b both.0, escape_plain text both.1) refl

pub quoted_plain : (text : List ℕ) → are_plain text ≡ true → quoted text ≡ 34 ∷ (text ++ 34 ∷ [])
quoted_plain text plain = rw (escape_plain text plain) refl

-- a plain text between two quotes
pub between_quotes : (old opened filled closed value : List ℕ) → opened ≡ old ++ 34 ∷ [] → filled ≡ opened ++ value
    → closed ≡ filled ++ 34 ∷ [] → are_plain value ≡ true → closed ≡ old ++ quoted value
between_quotes old opened filled closed value begun grown ended plain =
    rw (ended, grown, begun, quoted_plain value plain, append_assoc (old ++ 34 ∷ []) value (34 ∷ []), append_assoc old)
    refl

-- a writer's text of one string
pub written_string : (made before items : List ℕ) (start now : List Token) (text : List ℕ)
    → made ≡ before ++ print now → before ≡ items → items ≡ [] → start ≡ [] → now ≡ start ++ string text ∷ []
    → made ≡ quoted text
unfolding print_from
written_string made before items start now text is old none begun grown =
    rw (is, grown, begun, old, none) (append-nil (quoted text))
