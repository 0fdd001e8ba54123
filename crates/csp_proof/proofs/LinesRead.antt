-- Each valid line is read from its text, and what is read is valid and has that text.
use Rattle.std.proofs.Common.{arith, ◌≡◌, ◌≢◌, ◌∙◌, sym, ap, subst, refl, ℕ, ◌<◌, ◌^◌, true, List, ◌∷◌, ◌++◌, length, get_or}
use Rattle.std.specs.Prelude.{decimal, Option, Some, None, IfSome, option_map, codes}
use Rattle.std.specs.List.{list_all}
use Rattle.std.specs.Str.{bytes_eq}
use Rattle.std.proofs.lemmas.Bool.{and_parts, cond_both}
use Rattle.std.proofs.lemmas.Option.{IfSome_then, none-some, same_Some}
use Rattle.std.proofs.lemmas.List.Elements.{All-get_or}
use Rattle.std.proofs.lemmas.List.Sums.{AllPass-from_list_all}
use Rattle.csp_model.specs.Policies.{policy_limit}
use Rattle.csp_facts.specs.Spelling.{is_visible}
use Rattle.csp_facts.proofs.SpelledWords.{IsWord, decimal_word}
use Rattle.csp_facts.specs.Numbers.{shape_count}
use Rattle.csp_proof.specs.Reading.{cut, number_below, atom_of, format_named, tree_line, tree_of, bare_line, line_about, line_by, line_of, IsValidLine, IsReadAs}
use Rattle.csp_proof.specs.Spelling.{line_text}
use Rattle.csp_proof.specs.declared.line.ProofLine.{ProofLine}
use Rattle.csp_proof.specs.declared.line.ProofLine.TheVariants as line
use Rattle.csp_proof.specs.declared.proof.Format.TheVariants.{One, Two}
use Rattle.csp_proof.specs.declared.proof.Node.TheVariants as node
use Rattle.csp_proof.proofs.AtomsRead.{spelling_read, atom_sound, number_sound, mapped}
use Rattle.csp_proof.proofs.Cuts.{cut_at, cut_is}
use Rattle.csp_proof.proofs.LineTexts.{split_text}
use Rattle.csp_proof.proofs.Numbers.{number_read, same_text}

-- From the text

no_space : (word : List ℕ) → IsWord word → (i : ℕ) → i < length word → get_or word i 0 ≢ 32
no_space word h i within blank =
    let seen = All-get_or (λ c. is_visible c ≡ true) word i 0 within (AllPass-from_list_all is_visible word (and_parts _ (list_all is_visible word) h).1) in
    let space : is_visible 32 ≡ true = subst (λ c. is_visible c ≡ true) blank seen in
    cc space

tree_read : (shape policy : ℕ) → shape < shape_count → policy < policy_limit → tree_of (cut (decimal shape ++ 32 ∷ decimal policy)) ≡ Some (line.Tree shape policy)
tree_read shape policy shaped numbered =
    ap tree_of (cut_at (decimal shape) (decimal policy) (no_space (decimal shape) (decimal_word shape (omega arith))))
    ∙ ap (λ o. tree_line o (number_below policy_limit (decimal policy))) (number_read shape_count shape shaped (omega arith))
    ∙ ap (tree_line (Some shape)) (number_read policy_limit policy numbered (omega arith))

pub line_read : (l : ProofLine) → IsValidLine l → line_of (line_text l) ≡ Some l
unfolding line_about
line_read (line.Head One) valid = refl
line_read (line.Head Two) valid = refl
line_read (line.Tree shape policy) valid = tree_read shape policy valid.0 valid.1
line_read (line.Same number) valid = ap (option_map line.Same) (number_read (2 ^ 32) number valid (omega arith))
line_read (line.Node (node.Split atom)) valid = ap line_of (split_text atom) ∙ ap (option_map (λ a. line.Node (node.Split a))) (spelling_read atom valid)
line_read (line.Node (node.Blocked policy)) valid = ap (option_map (λ n. line.Node (node.Blocked n))) (number_read policy_limit policy valid (omega arith))
line_read (line.Node node.Met) valid = refl
line_read line.End valid = refl

-- What is read

abbrev Says : List ℕ → ProofLine → Type 0
Says text l = IsValidLine l × (text ≡ line_text l)

bare_sound : (text : List ℕ) → IfSome (bare_line text) (Says text)
bare_sound text = cond_both (bytes_eq text (codes "met")) _ _ (λ o. IfSome o (Says text)) (λ h. (tt, same_text text (codes "met") h))
    (λ _. cond_both (bytes_eq text (codes "end")) (Some line.End) None (λ o. IfSome o (Says text)) (λ h. (tt, same_text text (codes "end") h)) (λ _. tt))

behind : (word value text : List ℕ) (known : List ℕ) → text ≡ word ++ 32 ∷ value → bytes_eq word known ≡ true → text ≡ known ++ 32 ∷ value
behind word value text known is h = is ∙ ap (λ w. w ++ 32 ∷ value) (same_text word known h)

tree_sound : (value text : List ℕ) → text ≡ codes "tree" ++ 32 ∷ value → IfSome (tree_of (cut value)) (Says text)
tree_sound value text is = by (cut value) refl where
  numbers : (parts : List ℕ × List ℕ) (shape policy : Option ℕ) → cut value ≡ Some parts → IfSome shape (λ n. (n < shape_count) × (decimal n ≡ parts.0))
      → IfSome policy (λ n. (n < policy_limit) × (decimal n ≡ parts.1)) → IfSome (tree_line shape policy) (Says text)
  numbers parts None policy apart shaped numbered = tt
  numbers parts (Some shape) None apart shaped numbered = tt
  numbers parts (Some shape) (Some policy) apart shaped numbered =
      let spelled : text ≡ codes "tree" ++ 32 ∷ (decimal shape ++ 32 ∷ decimal policy)
      = is ∙ ap (λ v. codes "tree" ++ 32 ∷ v) (cut_is value parts.0 parts.1 apart ∙ ap (λ w. w ++ 32 ∷ parts.1) (sym shaped.1) ∙ ap (λ w. decimal shape ++ 32 ∷ w) (sym numbered.1)) in
      ((shaped.0, numbered.0), spelled)

  by : (parts : Option (List ℕ × List ℕ)) → cut value ≡ parts → IfSome (tree_of parts) (Says text)
  by None apart = tt
  by (Some parts) apart = numbers parts (number_below shape_count parts.0) (number_below policy_limit parts.1) apart (number_sound shape_count parts.0) (number_sound policy_limit parts.1)

format_sound : (value text : List ℕ) → text ≡ codes "csp-proof" ++ 32 ∷ value → IfSome (format_named value) (λ f. Says text (line.Head f))
format_sound value text is = cond_both (bytes_eq value (codes "1")) _ _ (λ o. IfSome o (λ f. Says text (line.Head f)))
    (λ h. (tt, is ∙ ap (λ v. codes "csp-proof" ++ 32 ∷ v) (same_text value (codes "1") h)))
    (λ _. cond_both (bytes_eq value (codes "2")) (Some Two) None (λ o. IfSome o (λ f. Says text (line.Head f)))
    (λ h. (tt, is ∙ ap (λ v. codes "csp-proof" ++ 32 ∷ v) (same_text value (codes "2") h))) (λ _. tt))

about_sound : (word value text : List ℕ) → text ≡ word ++ 32 ∷ value → IfSome (line_about word value) (Says text)
unfolding line_about
about_sound word value text is =
    let P = λ (o : Option ProofLine). IfSome o (Says text) in
    cond_both (bytes_eq word (codes "split")) _ _ P (λ h. mapped (λ a. line.Node (node.Split a)) (Says text) (atom_of value) (IfSome_then (atom_of value) (atom_sound value)
    (λ a sound. (sound.0, behind word value text (codes "split") is h ∙ ap (λ v. codes "split" ++ 32 ∷ v) (sym sound.1) ∙ sym (split_text a)))))
    (λ _. cond_both (bytes_eq word (codes "blocked")) _ _ P (λ h. mapped (λ n. line.Node (node.Blocked n)) (Says text) (number_below policy_limit value) (IfSome_then (number_below policy_limit value) (number_sound policy_limit value)
    (λ n sound. (sound.0, behind word value text (codes "blocked") is h ∙ ap (λ v. codes "blocked" ++ 32 ∷ v) (sym sound.1)))))
    (λ _. cond_both (bytes_eq word (codes "tree")) _ _ P (λ h. tree_sound value text (behind word value text (codes "tree") is h))
    (λ _. cond_both (bytes_eq word (codes "same")) _ _ P (λ h. mapped line.Same (Says text) (number_below (2 ^ 32) value) (IfSome_then (number_below (2 ^ 32) value) (number_sound (2 ^ 32) value)
    (λ n sound. (sound.0, behind word value text (codes "same") is h ∙ ap (λ v. codes "same" ++ 32 ∷ v) (sym sound.1)))))
    (λ _. cond_both (bytes_eq word (codes "csp-proof")) (option_map line.Head (format_named value)) None P
    (λ h. mapped line.Head (Says text) (format_named value) (format_sound value text (behind word value text (codes "csp-proof") is h))) (λ _. tt)))))

pub line_sound : (text : List ℕ) → IfSome (line_of text) (Says text)
line_sound text = by (cut text) refl where
  by : (parts : Option (List ℕ × List ℕ)) → cut text ≡ parts → IfSome (line_by parts text) (Says text)
  by None apart = bare_sound text
  by (Some parts) apart = about_sound parts.0 parts.1 text (cut_is text parts.0 parts.1 apart)

pub read_as : (text : List ℕ) → IsReadAs text (line_of text)
read_as text = by (line_of text) refl (line_sound text) where
  by : (found : Option ProofLine) → line_of text ≡ found → IfSome found (Says text) → IsReadAs text found
  by None is sound = λ l valid same. none-some l (sym is ∙ ap line_of same ∙ line_read l valid)
  by (Some l) is sound = sound

-- a text is that of one line
pub line_told : (l other : ProofLine) → IsValidLine l → IsValidLine other → line_text l ≡ line_text other → l ≡ other
line_told l other valid also same = same_Some l other (sym (line_read l valid) ∙ ap line_of same ∙ line_read other also)
