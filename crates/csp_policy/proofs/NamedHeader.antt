-- A line's header, whose name is the longest front of name characters.
use Rattle.std.proofs.Common.{arith, ◌≡◌, ◌∙◌, ◌&&◌, ◌==◌, ◌<◌, ◌+◌, if◌then◌else◌, sym, ap, refl, cond, ℕ, true, false, List, ◌∷◌, length, take, drop, Some, None, nat_lt, get_or, length-drop}
use Rattle.std.specs.List.{list_all, prefix_len, position_or_len}
use Rattle.std.proofs.lemmas.Bool.{eqb-true, false≢true}
use Rattle.std.proofs.lemmas.List.{get_or-take, length-take, drop_more}
use Rattle.std.proofs.lemmas.List.Sums.{position_or_len_is, prefix_len_is, prefix_len_passes, passes_at_first, list_all-from_AllPass, AllPass-from_list_all}
use Rattle.csp_model.specs.Policies.{is_token_char, is_field_name, is_field_value, header_at, header_of, Bad, Header}

abbrev pub name_end : List ℕ → ℕ
name_end line = prefix_len is_token_char line

colon_apart : is_token_char 58 ≡ false
unfolding is_token_char
colon_apart = refl

no_colon : (c : ℕ) → is_token_char c ≡ true → (c == 58) ≡ false
no_colon c h = elim (c == 58) as (λ b. (c == 58) ≡ b → b ≡ false) [
  | true ↦ λ is. absurd (false≢true (sym colon_apart ∙ sym (ap is_token_char (eqb-true c 58 is)) ∙ h))
  | false ↦ λ other. refl
] refl

-- the bytes of the name
pub name_passes : (line : List ℕ) → list_all is_token_char (take (name_end line) line) ≡ true
name_passes line = list_all-from_AllPass is_token_char (take (name_end line) line) (λ k d below.
    let short : k < name_end line = let n = length-take (name_end line) line in omega arith in
    ap is_token_char (get_or-take (name_end line) line k d short) ∙ prefix_len_passes is_token_char line k d short)

-- a colon behind the name is the first
first_colon : (line : List ℕ) → name_end line < length line → get_or line (name_end line) 0 ≡ 58 → header_of line ≡ header_at line (Some (name_end line))
unfolding header_of
first_colon line within colon =
    let place : position_or_len (λ c. c == 58) line ≡ name_end line = position_or_len_is (λ c. c == 58) line (name_end line) 0 (omega arith)
    (λ k below. no_colon (get_or line k 0) (prefix_len_passes is_token_char line k 0 below)) (λ _. ap (λ c. c == 58) colon) in
    let there : nat_lt (name_end line) (length line) ≡ true = grind (arith, within) in
    ap (header_at line) (ap (λ m. cond (nat_lt m (length line)) (Some m) None) place ∙ ap (λ b. cond b (Some (name_end line)) None) there)

-- what a line says that has a colon behind the name
pub header_found : (line value : List ℕ) → drop (name_end line) line ≡ 58 ∷ value
    → header_of line ≡ (if is_field_name (take (name_end line) line) && is_field_value value then Header (take (name_end line) line) value else Bad)
header_found line value h =
    let within : name_end line < length line = let some = ap length h in let long = length-drop (name_end line) line in omega arith in
    let parts : get_or line (name_end line) 0 ∷ drop (name_end line + 1) line ≡ 58 ∷ value = sym (drop_more line (name_end line) 0 within) ∙ h in
    let colon : get_or line (name_end line) 0 ≡ 58 = cc in
    let same : drop (name_end line + 1) line ≡ value = cc in
    first_colon line within colon ∙ ap (λ v. if is_field_name (take (name_end line) line) && is_field_value v then Header (take (name_end line) line) v else Bad) same

-- a colon further on ends no name
no_name : (line : List ℕ) (place : ℕ) → place < length line → get_or line place 0 ≡ 58 → (name_end line < length line → get_or line (name_end line) 0 ≡ 58 → ⊥) → is_field_name (take place line) ≡ false
unfolding is_field_name
no_name line place within colon other = elim (list_all is_token_char (take place line)) as (λ b. list_all is_token_char (take place line) ≡ b → is_field_name (take place line) ≡ false) [
  | true ↦ λ h.
      let long = length-take place line in
      let all = AllPass-from_list_all is_token_char (take place line) h in
      let same : name_end line ≡ place = prefix_len_is is_token_char line place 0 (omega arith)
      (λ k below. sym (ap is_token_char (get_or-take place line k 0 below)) ∙ all k 0 (omega arith)) (λ _. ap is_token_char colon ∙ colon_apart) in
      absurd (other (omega arith) (ap (λ n. get_or line n 0) same ∙ colon))
  | false ↦ λ h. grind (arith, h)
] refl

-- with no colon behind the name, the line is no header
pub no_header : (line : List ℕ) → (name_end line < length line → get_or line (name_end line) 0 ≡ 58 → ⊥) → header_of line ≡ Bad
unfolding header_of
no_header line other = elim (nat_lt place (length line)) as (λ b. nat_lt place (length line) ≡ b → header_at line (cond b (Some place) None) ≡ Bad) [
  | true ↦ λ h.
      let within : place < length line = grind (arith, h) in
      let colon : get_or line place 0 ≡ 58 = eqb-true _ 58 (passes_at_first (λ c. c == 58) line 0 within) in
      ap (λ b. if b && is_field_value (drop (place + 1) line) then Header (take place line) (drop (place + 1) line) else Bad) (no_name line place within colon other)
  | false ↦ λ h. refl
] refl where
  place : ℕ
  place = position_or_len (λ c. c == 58) line

pub nothing_behind : (line : List ℕ) → length (drop (name_end line) line) ≡ 0 → header_of line ≡ Bad
nothing_behind line h = no_header line (λ within colon. let long = length-drop (name_end line) line in absurd (omega arith))

pub other_behind : (line : List ℕ) (c : ℕ) (rest : List ℕ) → drop (name_end line) line ≡ c ∷ rest → (c ≡ 58 → ⊥) → header_of line ≡ Bad
other_behind line c rest h other = no_header line (λ within colon.
    let parts : get_or line (name_end line) 0 ∷ drop (name_end line + 1) line ≡ c ∷ rest = sym (drop_more line (name_end line) 0 within) ∙ h in
    let same : get_or line (name_end line) 0 ≡ c = cc in
    other (sym same ∙ colon))
