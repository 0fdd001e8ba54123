-- What a source is written as reads back to it.
use Rattle.std.proofs.Common.{arith, ◌≡◌, ◌∙◌, sym, ap, refl, subst, ℕ, Bool, true, not, ◌&&◌, List, [], ◌∷◌, ◌++◌, Some, None, Option, cond, false, drop, inl, inr, nat_eq}
use Rattle.std.specs.Prelude.{codes, ◌≢◌, ◌==◌, bytes_eq, nat_lt, if◌then◌else◌}
use Rattle.std.specs.List.{starts_with}
use Rattle.std.proofs.lemmas.Slice.Eq.{bytes_eq-Decides}
use Rattle.csp_model.specs.Ascii.{lower, is_ascii_text, ends_in, without_last, split_at}
use Rattle.csp_model.specs.Grammar.{IsSource, IsHostSource, IsSchemePart, keyword_text, algorithm_text, is_scheme_char, is_label_char, is_name, host_part_of, are_digits, decimal_value, port_numbered, port_part_of, are_segments, pieces_of, path_part_of}
use Rattle.csp_model.specs.Reading.{source_of, host_source, authority, is_host_char, is_no_slash}
use Rattle.csp_source.specs.Types.{Algorithm, HostPart, PortPart, PathPart, Keyword, Source}
use Rattle.csp_model.specs.declared.source.Algorithm.TheVariants.{Sha256, Sha384, Sha512}
use Rattle.csp_source.specs.Spelling.{scheme_spelling, host_spelling, port_spelling, path_spelling, spelling, IsRead}
use Rattle.csp_model.proofs.AsciiParts.{end_ascii}
use Rattle.csp_source.proofs.HostLaws.{chosen, host_again}
use Rattle.csp_source.proofs.LowerLaws.{host_spelt, is_scheme-lower, lower-lower}
use Rattle.csp_source.proofs.PortLaws.{port_spelt}
use Rattle.csp_source.proofs.SegmentLaws.{path_spelt}
use Rattle.csp_source.proofs.SourceLaws.{source_built, source_read}

scheme_spelt : (text : List ℕ) (scheme : Option (List ℕ)) → IsSchemePart text scheme → IsSchemePart (scheme_spelling scheme) scheme
scheme_spelt text None h = refl
scheme_spelt text (Some scheme) (letters, e, good, lowered) =
    (scheme, refl, rw lowered (is_scheme-lower letters good), lowered ∙ sym (lower-lower letters) ∙ sym (ap lower lowered))

path_ascii : (token a b c d : List ℕ) → token ≡ a ++ (b ++ (c ++ d)) → is_ascii_text token ≡ true → is_ascii_text d ≡ true
path_ascii token a b c d e h = end_ascii c d (end_ascii b (c ++ d) (end_ascii a (b ++ (c ++ d)) (sym (ap is_ascii_text e) ∙ h)))

parts_spelt : (token : List ℕ) (scheme : Option (List ℕ)) (host_part : HostPart) (port_part : PortPart) (path_part : PathPart) → is_ascii_text token ≡ true
    → IsHostSource token scheme host_part port_part path_part → IsHostSource (spelling (Source.Hosted scheme host_part port_part path_part)) scheme host_part port_part path_part
parts_spelt token scheme host_part port_part path_part ascii (a, b, c, d, e, sa, eb, ec, ed) = (
  scheme_spelling scheme,
  host_spelling host_part,
  port_spelling port_part,
  path_spelling path_part,
  refl,
  scheme_spelt a scheme sa,
  host_spelt b host_part eb,
  port_spelt c port_part ec,
  path_spelt d path_part (path_ascii token a b c d e ascii) ed,
)

keyword_spelt : (word : Keyword) → lower (keyword_text word) ≡ keyword_text word
keyword_spelt word = grind arith

hash_word_spelt : (algorithm : Algorithm) → lower (39 ∷ algorithm_text algorithm ++ codes "-") ≡ 39 ∷ algorithm_text algorithm ++ codes "-"
hash_word_spelt Sha256 = refl
hash_word_spelt Sha384 = refl
hash_word_spelt Sha512 = refl

-- ---- "*" alone is no host-source

any_is : (text : List ℕ) → host_part_of text ≡ Some HostPart.Any → text ≡ codes "*"
unfolding host_part_of
any_is text e =
    let exact = if is_name text then Some (HostPart.Exact (lower text)) else None in
    let under = if starts_with nat_eq text (codes "*.") && is_name (drop 2 text) then Some (HostPart.Under (lower (drop 2 text))) else exact in
    elim (chosen (bytes_eq text (codes "*")) (Some HostPart.Any) under HostPart.Any e) [
      | inl one ↦ (bytes_eq-Decides text (codes "*")).0 one.0
      | inr two ↦
          elim (chosen (starts_with nat_eq text (codes "*.") && is_name (drop 2 text)) (Some (HostPart.Under (lower (drop 2 text)))) exact HostPart.Any two.1) [
            | inl three ↦ cc
            | inr four ↦ elim (chosen (is_name text) (Some (HostPart.Exact (lower text))) None HostPart.Any four.1) [ inl five ↦ cc | inr six ↦ cc ]
          ]
    ]

numbered_not_absent : (n : ℕ) → port_numbered n ≡ PortPart.Absent → ⊥
numbered_not_absent n e = go (nat_lt n 65536) e where
  go : (b : Bool) → cond b (PortPart.Number n) PortPart.TooLarge ≡ PortPart.Absent → ⊥
  go true e = cc
  go false e = cc

no_port_is : (text : List ℕ) → port_part_of text ≡ Some PortPart.Absent → text ≡ []
unfolding port_part_of
no_port_is [] e = refl
no_port_is (c ∷ text) e =
    let numbered = if are_digits text then Some (port_numbered (decimal_value text)) else None in
    elim (chosen (not (c == 58)) None (if bytes_eq text (codes "*") then Some PortPart.Any else numbered) PortPart.Absent e) [
      | inl other ↦ cc
      | inr one ↦ elim (chosen (bytes_eq text (codes "*")) (Some PortPart.Any) numbered PortPart.Absent one.1) [
        | inl two ↦ cc
        | inr three ↦ elim (chosen (are_digits text) (Some (port_numbered (decimal_value text))) None PortPart.Absent three.1) [
          | inl four ↦ absurd (numbered_not_absent (decimal_value text) (cc four.1))
          | inr five ↦ cc
        ]
      ]
    ]

path_not_absent : (b : Bool) (x y : List (List ℕ)) → cond b (PathPart.Prefix x) (PathPart.Exact y) ≡ PathPart.Absent → ⊥
path_not_absent true x y e = cc
path_not_absent false x y e = cc

no_path_is : (text : List ℕ) → path_part_of text ≡ Some PathPart.Absent → text ≡ []
unfolding path_part_of
no_path_is [] e = refl
no_path_is (c ∷ text) e =
    let made = if ends_in 47 (c ∷ text) then PathPart.Prefix (without_last (pieces_of text)) else PathPart.Exact (pieces_of text) in
    elim (chosen ((c == 47) && are_segments (split_at 47 text)) (Some made) None PathPart.Absent e) [
      | inl one ↦ let is : made ≡ PathPart.Absent = cc in absurd (path_not_absent (ends_in 47 (c ∷ text)) _ _ is)
      | inr two ↦ cc
    ]

star_is : (token : List ℕ) → IsHostSource token None HostPart.Any PortPart.Absent PathPart.Absent → token ≡ codes "*"
star_is token (a, b, c, d, e, sa, eb, ec, ed) =
    let b' = any_is b eb in
    let c' = no_port_is c ec in
    let d' = no_path_is d ed in
    e ∙ rw (sa, b', c', d') refl

star_source : host_source (codes "*") ≡ Some (Source.Hosted None HostPart.Any PortPart.Absent PathPart.Absent)
unfolding host_source authority is_host_char is_no_slash is_scheme_char is_label_char host_part_of port_part_of path_part_of
star_source = refl

-- a spelling is "*" only where the token was
spelt_apart : (token : List ℕ) (scheme : Option (List ℕ)) (host_part : HostPart) (port_part : PortPart) (path_part : PathPart) → token ≢ codes "*"
    → IsHostSource token scheme host_part port_part path_part → IsHostSource (spelling (Source.Hosted scheme host_part port_part path_part)) scheme host_part port_part path_part
    → spelling (Source.Hosted scheme host_part port_part path_part) ≢ codes "*"
spelt_apart token scheme host_part port_part path_part apart was now e =
    let read = sym (host_again (spelling (Source.Hosted scheme host_part port_part path_part)) scheme host_part port_part path_part now) ∙ ap host_source e ∙ star_source in
    let no_scheme : scheme ≡ None = cc (read) in
    let any : host_part ≡ HostPart.Any = cc (read) in
    let no_port : port_part ≡ PortPart.Absent = cc (read) in
    let no_path : path_part ≡ PathPart.Absent = cc (read) in
    apart (star_is token (rw (no_scheme, any, no_port, no_path) at was))

spelt : (token : List ℕ) (s : Source) → is_ascii_text token ≡ true → IsSource token s → IsSource (spelling s) s
spelt token Source.Star ascii h = refl
spelt token (Source.SchemeOnly scheme) ascii (letters, e, good, lowered) =
    (scheme, refl, rw lowered (is_scheme-lower letters good), lowered ∙ sym (lower-lower letters) ∙ sym (ap lower lowered))
spelt token (Source.Hosted scheme host_part port_part path_part) ascii h =
    let again = parts_spelt token scheme host_part port_part path_part ascii h.1 in
    (spelt_apart token scheme host_part port_part path_part h.0 h.1 again, again)
spelt token (Source.Word word) ascii h = keyword_spelt word
spelt token (Source.Nonce value) ascii (letters, e, lowered, good) = (codes "'nonce-", refl, refl, good)
spelt token (Source.Digest hash) ascii (letters, e, lowered, good) = (39 ∷ algorithm_text hash.algorithm ++ codes "-", refl, hash_word_spelt hash.algorithm, good)
spelt token (Source.Other text) ascii h = let IsOther : List ℕ → Type 0 = λ t. IsSource t (Source.Other text) in subst IsOther (sym h.0) h

pub source_of-spelling : (s : Source) → IsRead s → source_of (spelling s) ≡ s
source_of-spelling s (token, ascii, is) = source_built (spelling s) s (spelt token s ascii (subst (IsSource token) is (source_read token)))

-- the same of a text that a source was written to
pub reads_back : (s : Source) (made whole before : List ℕ) → IsRead s → made ≡ whole → whole ≡ before ++ spelling s → before ≡ [] → source_of made ≡ s
reads_back s made whole before h a b none = ap source_of (a ∙ b ∙ ap (λ x. x ++ spelling s) none) ∙ source_of-spelling s h
