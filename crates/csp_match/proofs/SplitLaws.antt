-- A list matches a URL where one of its kinds of sources does.
use Rattle.std.proofs.Common.{◌≡◌, ℕ, Bool, true, false, ◌&&◌, ◌||◌, List, [], ◌∷◌, ◌++◌, ◌+◌, ◌<◌, length, take, get_or, append-nil, Option, Some, None, refl, sym, ◌∙◌, ap, ap₂, subst, filter_map, map, Bor, Contains, Any}
use Rattle.std.specs.List.{list_any, cons_option}
use Rattle.std.proofs.lemmas.List.{take_more}
use Rattle.std.proofs.lemmas.List.Elements.{filter_map-append}
use Rattle.std.specs.Bool.{Decides}
use Rattle.std.specs.Str.{bytes_eq}
use Rattle.std.proofs.lemmas.Slice.Eq.{bytes_eq-Decides}
use Rattle.csp_model.specs.DecideMatching.{scheme_matches, own_scheme_matches, host_matches, self_matches, host_source_matches, is_network_scheme, matches, list_matches}
use Rattle.csp_model.specs.Matching.{url_scheme, ListMatches}
use Rattle.csp_model.proofs.MatchingDecided.{list_decides}
use Rattle.csp_model.specs.Schemes.{scheme_text}
use Rattle.csp_match.specs.Types.{Origin, Url, HostPart, PathPart, PortPart, Source}
use Rattle.csp_match.specs.Keys.{parts_of, Parts}
use Rattle.csp_match.specs.Split.{is_star, is_self, scheme_part, any_host_source, by_star_or_self, by_scheme_or_host}
use Rattle.csp_match.proofs.AnyLaws.{or_false, any_or, any_alike, any_once, any_map}

-- the test of what a source may have
abbrev passes : {Y : Type 0} → (Y → Bool) → Option Y → Bool
passes p None = false
passes p (Some y) = p y

any_filter_map : {X Y : Type 0} (h : X → Option Y) (p : Y → Bool) (xs : List X)
    → list_any p (filter_map h xs) ≡ list_any (λ x. passes p (h x)) xs
any_filter_map h p [] = refl
any_filter_map {X} {Y} h p (x ∷ xs) = step (h x) (filter_map h xs) (any_filter_map h p xs) where
  step : (o : Option Y) (ys : List Y) → list_any p ys ≡ list_any (λ (y : X). passes p (h y)) xs
      → list_any p (cons_option o ys) ≡ (passes p o || list_any (λ (y : X). passes p (h y)) xs)
  step None ys same = same
  step (Some y) ys same = ap (λ (b : Bool). p y || b) same

any_and : {X : Type 0} (p : X → Bool) (b : Bool) (xs : List X) → list_any (λ x. p x && b) xs ≡ (list_any p xs && b)
any_and p b [] = refl
any_and p b (x ∷ xs) = ap (λ (a : Bool). (p x && b) || a) (any_and p b xs) ∙ shared (p x) (list_any p xs) b where
  shared : (a c d : Bool) → ((a && d) || (c && d)) ≡ ((a || c) && d)
  shared true c true = refl
  shared true true false = refl
  shared true false false = refl
  shared false c d = refl

never : (a b : Bool) → (a && (b && false)) ≡ false
never true true = refl
never true false = refl
never false b = refl

-- a port that is no port matches nothing
no_port : (scheme : Option (List ℕ)) (host : HostPart) (path : PathPart) (self : Origin) (there : Url) (redirected : Bool)
    → host_source_matches scheme host PortPart.TooLarge path self there redirected ≡ false
no_port scheme host path self (Url.Plain own) redirected = refl
no_port scheme host path self (Url.Hosted own there port pieces) redirected =
    never (own_scheme_matches scheme self (scheme_text own)) (host_matches host there)

module _ (self : Origin) (there : Url) (redirected : Bool) where
  abbrev by_scheme : List ℕ → Bool
  by_scheme part = scheme_matches part (url_scheme there)

  abbrev by_host : Parts → Bool
  by_host s = host_source_matches s.scheme s.host s.port s.path self there redirected

  by_kind : (s : Source) → matches s self there redirected
      ≡ (((is_star s && is_network_scheme (url_scheme there)) || (is_self s && self_matches self there))
      || (passes by_scheme (scheme_part s) || passes by_host (parts_of s)))
  by_kind Source.Star = sym (or_false _ ∙ or_false _)
  by_kind (Source.SchemeOnly scheme) = sym (or_false _)
  by_kind (Source.Hosted scheme host PortPart.Absent path) = refl
  by_kind (Source.Hosted scheme host PortPart.Any path) = refl
  by_kind (Source.Hosted scheme host (PortPart.Number n) path) = refl
  by_kind (Source.Hosted scheme host PortPart.TooLarge path) = no_port scheme host path self there redirected
  by_kind (Source.Word word) = sym (or_false _)
  by_kind s = refl

  pub list_by_kind : (sources : List Source) → list_matches sources self there redirected
      ≡ (by_star_or_self sources self there || by_scheme_or_host sources self there redirected)
  list_by_kind sources =
      let network = is_network_scheme (url_scheme there) in
      let own = self_matches self there in
      let star = λ (s : Source). is_star s && network in
      let mine = λ (s : Source). is_self s && own in
      let schemed = λ (s : Source). passes by_scheme (scheme_part s) in
      let hosted = λ (s : Source). passes by_host (parts_of s) in
      any_alike _ (λ (s : Source). (star s || mine s) || (schemed s || hosted s)) sources by_kind
      ∙ (any_or (λ (s : Source). star s || mine s) (λ (s : Source). schemed s || hosted s) sources
      ∙ ap₂ (λ (a b : Bool). a || b)
      (any_or star mine sources ∙ ap₂ (λ (a b : Bool). a || b) (any_and is_star network sources) (any_and is_self own sources))
      (any_or schemed hosted sources
      ∙ ap₂ (λ (a b : Bool). a || b) (sym (any_filter_map scheme_part by_scheme sources)) (sym (any_filter_map parts_of by_host sources))))

-- what one more source adds to those of a kind
module _ {X Y : Type 0} (h : X → Option Y) (xs : List X) (i : ℕ) (x : X) (within : i < length xs) (is : x ≡ get_or xs i x) where
  so_far : filter_map h (take (i + 1) xs) ≡ filter_map h (take i xs) ++ cons_option (h x) []
  so_far =
      ap (filter_map h) (take_more xs i x within ∙ ap (λ (y : X). take i xs ++ y ∷ []) (sym is))
      ∙ filter_map-append h (take i xs) (x ∷ [])

  pub with_one : (y : Y) → h x ≡ Some y → filter_map h (take (i + 1) xs) ≡ filter_map h (take i xs) ++ y ∷ []
  with_one y some = so_far ∙ ap (λ (o : Option Y). filter_map h (take i xs) ++ cons_option o []) some

  pub with_none : h x ≡ None → filter_map h (take (i + 1) xs) ≡ filter_map h (take i xs)
  with_none none = so_far ∙ (ap (λ (o : Option Y). filter_map h (take i xs) ++ cons_option o []) none ∙ append-nil _)

-- no URL without a host is matched by a host-source
pub none_plain : (scheme : List ℕ) (sources : List Parts) (self : Origin) (redirected : Bool)
    → any_host_source sources self (Url.Plain scheme) redirected ≡ false
none_plain scheme [] self redirected = refl
none_plain scheme (s ∷ sources) self redirected = none_plain scheme sources self redirected

-- after a sort each scheme stands once
pub schemes_once : (given made : List (Bor (List ℕ))) → ((x : Bor (List ℕ)) → Contains made x → Contains given x)
    → ((x : Bor (List ℕ)) → Contains given x → Any (λ y. bytes_eq x.now y.now ≡ true) made)
    → (p : List ℕ → Bool) → list_any (λ t. p t.now) made ≡ list_any p (map (λ t. t.now) given)
schemes_once given made only all p =
    any_once (λ (x y : Bor (List ℕ)). bytes_eq x.now y.now) given made only all (λ (t : Bor (List ℕ)). p t.now)
    (λ (x y : Bor (List ℕ)) h. ap p ((bytes_eq-Decides x.now y.now).0 h))
    ∙ sym (any_map (λ (t : Bor (List ℕ)). t.now) p given)

-- a list matches where its parts do
pub split_decides : (sources : List Source) (self : Origin) (there : Url) (redirected result : Bool)
    → result ≡ (by_star_or_self sources self there || by_scheme_or_host sources self there redirected)
    → (result ≡ list_matches sources self there redirected) × Decides result (ListMatches sources self there redirected)
split_decides sources self there redirected result is =
    let value = is ∙ sym (list_by_kind self there redirected sources) in
    (value, subst (λ b. Decides b (ListMatches sources self there redirected)) (sym value) (list_decides sources self there redirected))
