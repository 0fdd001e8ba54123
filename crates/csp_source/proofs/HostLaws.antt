-- Host-sources: the reading and the grammar agree.
use Rattle.std.proofs.Common.{arith, ◌≡◌, ◌∙◌, sym, ap, refl, ℕ, Bool, true, false, ◌&&◌, List, [], ◌∷◌, ◌++◌, length, take, drop, Some, None, nat_eq, cond, inl, inr, append_assoc}
use Rattle.std.specs.Prelude.{codes, ⊤, Option, if◌then◌else◌, ◌==◌, ◌⊎◌}
use Rattle.std.specs.List.{list_all, slice_split, starts_with, onto_first, prefix_len, take_while}
use Rattle.std.specs.Char.{is_ascii_digit}
use Rattle.std.specs.Option.{option_map, option_and_then}
use Rattle.std.specs.Str.{bytes_eq}
use Rattle.std.proofs.Math.Seq.{drop-append_seam, take-append_seam}
use Rattle.std.proofs.lemmas.Grind.{common_steps}
use Rattle.std.proofs.lemmas.List.{take-append-drop}
use Rattle.std.proofs.lemmas.Slice.Eq.{bytes_eq-Decides}
use Rattle.std.proofs.lemmas.Bool.{eqb-true}
use Rattle.csp_model.specs.Ascii.{lower, ends_in, without_last, without_final, skip_while}
use Rattle.csp_model.specs.Grammar.{is_scheme_char, is_scheme, is_label_char, is_label, is_name, IsHostSource, host_part_of, port_part_of, path_part_of}
use Rattle.csp_model.specs.Reading.{is_host_char, is_no_slash, authority, host_source}
use Rattle.csp_model.proofs.SkipLaws.{skip_while-cons}
use Rattle.csp_model.proofs.FinalBytes.{ends_in_front}
use Rattle.csp_source.specs.Types.{HostPart, PortPart, PathPart, Source}

-- a text that is empty, or whose first byte fails
abbrev pub Stops : (ℕ → Bool) → List ℕ → Type 0
Stops p [] = ⊤
Stops p (x ∷ xs) = p x ≡ false

prefix_len-append : (p : ℕ → Bool) (a b : List ℕ) → list_all p a ≡ true → Stops p b → prefix_len p (a ++ b) ≡ length a
prefix_len-append p [] [] h k = refl
prefix_len-append p [] (x ∷ b) h k = rw k refl
prefix_len-append p (x ∷ a) b h k = grind (arith, common_steps, prefix_len-append p a b)

pub take_while-append : (p : ℕ → Bool) (a b : List ℕ) → list_all p a ≡ true → Stops p b → take_while p (a ++ b) ≡ a
take_while-append p a b h k = ap (λ n. take n (a ++ b)) (prefix_len-append p a b h k) ∙ take-append_seam a b

pub skip_while-append : (p : ℕ → Bool) (a b : List ℕ) → list_all p a ≡ true → Stops p b → skip_while p (a ++ b) ≡ b
skip_while-append p a b h k = ap (λ n. drop n (a ++ b)) (prefix_len-append p a b h k) ∙ drop-append_seam a b

take_skip : (p : ℕ → Bool) (s : List ℕ) → s ≡ take_while p s ++ skip_while p s
take_skip p s = sym (take-append-drop (prefix_len p s) s)

pub chosen : {A : Type 0} (b : Bool) (x : Option A) (y : Option A) (v : A) → cond b x y ≡ Some v → ((b ≡ true) × (x ≡ Some v)) ⊎ ((b ≡ false) × (y ≡ Some v))
chosen true x y v e = inl (refl, e)
chosen false x y v e = inr (refl, e)

-- what passes one test passes a weaker one
pub weaker : {X : Type 0} (p q : X → Bool) → ((c : X) → p c ≡ true → q c ≡ true) → (s : List X) → list_all p s ≡ true → list_all q s ≡ true
weaker p q h [] k = refl
weaker p q h (x ∷ s) k = grind (arith, common_steps, h x, weaker p q h s)

onto_first_pass : (p : ℕ → Bool) (x : ℕ) (parts : List (List ℕ)) → list_all (λ part. list_all p part) (onto_first x parts) ≡ true → (p x ≡ true) × (list_all (λ part. list_all p part) parts ≡ true)
onto_first_pass p x [] h = grind (arith, common_steps)
onto_first_pass p x (part ∷ parts) h = grind (arith, common_steps)

-- the parts of a text pass, and so the text with the dots
pub parts_pass : (p : ℕ → Bool) → p 46 ≡ true → (s : List ℕ) → list_all (λ part. list_all p part) (slice_split (λ c. c == 46) s) ≡ true → list_all p s ≡ true
parts_pass p dot [] h = refl
parts_pass p dot (x ∷ s) h = grind (arith, common_steps, parts_pass p dot s, onto_first_pass p x (slice_split (λ c. c == 46) s))

last_passes : (p : ℕ → Bool) (s : List ℕ) (c : ℕ) → list_all p s ≡ true → p c ≡ true → list_all p (s ++ c ∷ []) ≡ true
last_passes p [] c h k = grind (arith, common_steps)
last_passes p (d ∷ s) c h k = grind (arith, common_steps, last_passes p s c)

-- a text passes where its front does and the dot at its end
without_final_by : (p : ℕ → Bool) (b : Bool) (s : List ℕ) → ends_in 46 s ≡ b → p 46 ≡ true → list_all p (cond b (without_last s) s) ≡ true → list_all p s ≡ true
without_final_by p true s e dot h = ap (list_all p) (ends_in_front 46 s e) ∙ last_passes p (without_last s) 46 h dot
without_final_by p false s e dot h = h

pub without_final_pass : (p : ℕ → Bool) → p 46 ≡ true → (s : List ℕ) → list_all p (without_final 46 s) ≡ true → list_all p s ≡ true
without_final_pass p dot s h = without_final_by p (ends_in 46 s) s refl dot h

label_chars : (c : ℕ) → is_label_char c ≡ true → is_host_char c ≡ true
unfolding is_label_char is_host_char
label_chars c h = grind arith

label_host : (part : List ℕ) → is_label part ≡ true → list_all is_host_char part ≡ true
label_host part h = weaker is_label_char is_host_char label_chars part (grind arith)

pub name_chars : (s : List ℕ) → is_name s ≡ true → list_all is_host_char s ≡ true
unfolding is_name is_label_char is_host_char
name_chars s h = without_final_pass is_host_char refl s (parts_pass is_host_char refl (without_final 46 s) (weaker is_label (λ part. list_all is_host_char part) label_host (slice_split (λ c. c == 46) (without_final 46 s)) h))

pub star_dot : (s : List ℕ) → starts_with nat_eq s (codes "*.") ≡ true → s ≡ codes "*." ++ drop 2 s
star_dot [] h = grind (arith, common_steps)
star_dot (c ∷ []) h = grind (arith, common_steps)
star_dot (c ∷ d ∷ s) h = grind (arith, common_steps)

star_chars : (b : List ℕ) → bytes_eq b (codes "*") ≡ true → list_all is_host_char b ≡ true
unfolding is_label_char is_host_char
star_chars b t = rw ((bytes_eq-Decides b (codes "*")).0 t) refl

under_chars : (b : List ℕ) → (starts_with nat_eq b (codes "*.") && is_name (drop 2 b)) ≡ true → list_all is_host_char b ≡ true
unfolding is_label_char is_host_char
under_chars b t = let e = star_dot b (grind arith) in let k = name_chars (drop 2 b) (grind arith) in rw e (grind arith)

pub host_chars : (b : List ℕ) (h : HostPart) → host_part_of b ≡ Some h → list_all is_host_char b ≡ true
unfolding host_part_of is_host_char
host_chars b h e =
    let plain = if is_name b then Some (HostPart.Exact (lower b)) else None in
    let under = if starts_with nat_eq b (codes "*.") && is_name (drop 2 b) then Some (HostPart.Under (lower (drop 2 b))) else plain in
    elim (chosen (bytes_eq b (codes "*")) (Some HostPart.Any) under h e) [
      | inl one ↦ star_chars b one.0
      | inr two ↦
          elim (chosen (starts_with nat_eq b (codes "*.") && is_name (drop 2 b)) (Some (HostPart.Under (lower (drop 2 b)))) plain h two.1) [
            | inl three ↦ under_chars b three.0
            | inr four ↦
                elim (chosen (is_name b) (Some (HostPart.Exact (lower b))) None h four.1) [ inl five ↦ name_chars b five.0 | inr six ↦ cc ]
          ]
    ]

pub port_stops : (c d : List ℕ) (p : PortPart) → port_part_of c ≡ Some p → Stops is_host_char d → Stops is_host_char (c ++ d)
unfolding port_part_of is_label_char is_host_char
port_stops [] d p e s = s
port_stops (x ∷ c) d p e s = grind (arith, common_steps)

path_slash_by : (b : Bool) (more : Bool) (x : PathPart) (q : PathPart) → cond (b && more) (Some x) None ≡ Some q → b ≡ true
path_slash_by true more x q e = refl
path_slash_by false more x q e = cc

pub path_slash : (x : ℕ) (d : List ℕ) (q : PathPart) → path_part_of (x ∷ d) ≡ Some q → x ≡ 47
unfolding path_part_of
path_slash x d q e = eqb-true x 47 (path_slash_by _ _ _ q e)

pub path_stops : (d : List ℕ) (q : PathPart) → path_part_of d ≡ Some q → Stops is_host_char d × Stops is_no_slash d
unfolding is_label_char is_host_char is_no_slash
path_stops [] q e = (tt, tt)
path_stops (x ∷ d) q e = let slash = path_slash x d q e in (rw slash refl, rw slash refl)

digit_no_slash : (c : ℕ) → is_ascii_digit c ≡ true → is_no_slash c ≡ true
unfolding is_no_slash
digit_no_slash c h = grind arith

pub port_chars : (c : List ℕ) (p : PortPart) → port_part_of c ≡ Some p → list_all is_no_slash c ≡ true
unfolding port_part_of is_no_slash
port_chars [] p e = refl
port_chars (x ∷ c) p e = grind (arith, common_steps, bytes_eq-Decides c (codes "*"), weaker is_ascii_digit is_no_slash digit_no_slash c)

pub scheme_chars : (letters : List ℕ) → is_scheme letters ≡ true → list_all is_scheme_char letters ≡ true
unfolding is_scheme_char
scheme_chars [] h = refl
scheme_chars (x ∷ letters) h = grind (arith, common_steps)

pub and_false : (x : Bool) → (x && false) ≡ false
and_false true = refl
and_false false = refl

-- no "://" stands behind scheme characters where a host begins the text
no_scheme_within : (b r : List ℕ) → list_all is_host_char b ≡ true → starts_with nat_eq (skip_while is_scheme_char (b ++ r)) (codes "://") ≡ true → starts_with nat_eq (skip_while is_scheme_char r) (codes "://") ≡ true
unfolding is_scheme_char is_label_char is_host_char
no_scheme_within [] r h e = e
no_scheme_within (x ∷ b) r h e = let next = skip_while-cons is_scheme_char x (b ++ r) in grind (arith, common_steps, next, no_scheme_within b r)

no_scheme_after : (c d : List ℕ) (p : PortPart) (q : PathPart) → port_part_of c ≡ Some p → path_part_of d ≡ Some q → starts_with nat_eq (skip_while is_scheme_char (c ++ d)) (codes "://") ≡ false
unfolding port_part_of is_scheme_char is_label_char
no_scheme_after [] [] p q e k = refl
no_scheme_after [] (x ∷ d) p q e k = rw (path_slash x d q k) refl
no_scheme_after (x ∷ []) d p q e k = grind (arith, common_steps)
no_scheme_after (x ∷ y ∷ c) d p q e k = grind (arith, common_steps, bytes_eq-Decides (y ∷ c) (codes "*"))

pub authority_again : (scheme : Option (List ℕ)) (b c d : List ℕ) (h : HostPart) (p : PortPart) (q : PathPart) → host_part_of b ≡ Some h → port_part_of c ≡ Some p → path_part_of d ≡ Some q
    → authority scheme (b ++ (c ++ d)) ≡ Some (Source.Hosted scheme h p q)
unfolding authority
authority_again scheme b c d h p q eb ec ed =
    let f = take_while-append is_host_char b (c ++ d) (host_chars b h eb) (port_stops c d p ec (path_stops d q ed).0) in
    let k = skip_while-append is_host_char b (c ++ d) (host_chars b h eb) (port_stops c d p ec (path_stops d q ed).0) in
    let f2 = take_while-append is_no_slash c d (port_chars c p ec) (path_stops d q ed).1 in
    let k2 = skip_while-append is_no_slash c d (port_chars c p ec) (path_stops d q ed).1 in
    simp (f, k, f2, k2, eb, ec, ed)

pub host_again : (token : List ℕ) (scheme : Option (List ℕ)) (h : HostPart) (p : PortPart) (q : PathPart) → IsHostSource token scheme h p q → host_source token ≡ Some (Source.Hosted scheme h p q)
unfolding is_scheme_char host_source
host_again token None h p q (a, b, c, d, e, sa, eb, ec, ed) =
    let e' : token ≡ b ++ (c ++ d) = e ∙ ap (λ x. x ++ (b ++ (c ++ d))) sa in
    let no = no_scheme_after c d p q ec ed in
    let no' : starts_with nat_eq (skip_while is_scheme_char token) (codes "://") ≡ false = grind (arith, common_steps, no_scheme_within b (c ++ d) (host_chars b h eb)) in
    simp (no', and_false) (ap (authority None) e' ∙ authority_again None b c d h p q eb ec ed)
host_again token (Some scheme) h p q (a, b, c, d, e, (letters, ea, good, lowered), eb, ec, ed) =
    let tail = codes "://" ++ (b ++ (c ++ d)) in
    let e' : token ≡ letters ++ tail = e ∙ ap (λ x. x ++ (b ++ (c ++ d))) ea ∙ append_assoc letters (codes "://") (b ++ (c ++ d)) in
    let f : take_while is_scheme_char token ≡ letters = ap (take_while is_scheme_char) e' ∙ take_while-append is_scheme_char letters tail (scheme_chars letters good) refl in
    let k : skip_while is_scheme_char token ≡ tail = ap (skip_while is_scheme_char) e' ∙ skip_while-append is_scheme_char letters tail (scheme_chars letters good) refl in
    simp (f, k, good) (rw lowered (authority_again (Some (lower letters)) b c d h p q eb ec ed))

-- and back
pub authority_takes : (scheme : Option (List ℕ)) (text : List ℕ) (s : Source) → authority scheme text ≡ Some s
    → (h : HostPart) × (p : PortPart) × (q : PathPart) × (s ≡ Source.Hosted scheme h p q) × (host_part_of (take_while is_host_char text) ≡ Some h)
    × (port_part_of (take_while is_no_slash (skip_while is_host_char text)) ≡ Some p) × (path_part_of (skip_while is_no_slash (skip_while is_host_char text)) ≡ Some q)
unfolding authority
authority_takes scheme text s e = go (host_part_of (take_while is_host_char text)) (port_part_of (take_while is_no_slash (skip_while is_host_char text))) (path_part_of (skip_while is_no_slash (skip_while is_host_char text))) e where
  go : (h : Option HostPart) (p : Option PortPart) (q : Option PathPart)
      → option_and_then (λ host_part. option_and_then (λ port_part. option_map (λ path_part. Source.Hosted scheme host_part port_part path_part) q) p) h ≡ Some s
      → (h' : HostPart) × (p' : PortPart) × (q' : PathPart) × (s ≡ Source.Hosted scheme h' p' q') × (h ≡ Some h') × (p ≡ Some p') × (q ≡ Some q')
  go None p q e = cc
  go (Some h) None q e = cc
  go (Some h) (Some p) None e = cc
  go (Some h) (Some p) (Some q) e = (h, p, q, cc, refl, refl, refl)

parts_join : (p q : ℕ → Bool) (s : List ℕ) → s ≡ take_while p s ++ (take_while q (skip_while p s) ++ skip_while q (skip_while p s))
parts_join p q s = take_skip p s ∙ ap (λ x. take_while p s ++ x) (take_skip q (skip_while p s))

pub scheme_end : (s : List ℕ) → starts_with nat_eq s (codes "://") ≡ true → s ≡ codes "://" ++ drop 3 s
scheme_end [] h = cc
scheme_end (c ∷ []) h = grind (arith, common_steps)
scheme_end (c ∷ d ∷ []) h = grind (arith, common_steps)
scheme_end (c ∷ d ∷ f ∷ s) h = grind (arith, common_steps)

pub host_takes : (token : List ℕ) (s : Source) → host_source token ≡ Some s
    → (scheme : Option (List ℕ)) × (h : HostPart) × (p : PortPart) × (q : PathPart) × (s ≡ Source.Hosted scheme h p q) × IsHostSource token scheme h p q
unfolding host_source
host_takes token s e =
    let letters = take_while is_scheme_char token in
    let after = skip_while is_scheme_char token in
    elim (chosen (is_scheme letters && starts_with nat_eq after (codes "://")) (authority (Some (lower letters)) (drop 3 after)) (authority None token) s e) [
      | inl one ↦
          let (h, p, q, is, eb, ec, ed) = authority_takes (Some (lower letters)) (drop 3 after) s one.1 in
          let good : is_scheme letters ≡ true = grind (arith, one.0) in
          let ends : starts_with nat_eq after (codes "://") ≡ true = grind (arith, one.0) in
          let whole = take_skip is_scheme_char token ∙ ap (λ x. letters ++ x) (scheme_end after ends ∙ ap (λ x. codes "://" ++ x) (parts_join is_host_char is_no_slash (drop 3 after)))
          ∙ sym (append_assoc letters (codes "://") _) in
          (Some (lower letters), h, p, q, is, (_, _, _, _, whole, (letters, refl, good, refl), eb, ec, ed))
      | inr two ↦
          let (h, p, q, is, eb, ec, ed) = authority_takes None token s two.1 in
          (None, h, p, q, is, ([], _, _, _, parts_join is_host_char is_no_slash token, refl, eb, ec, ed))
    ]
