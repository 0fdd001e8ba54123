-- What governs under a name is the first directive of that name, so the entry of the name has it.
use Rattle.std.proofs.Common.{◌≡◌, arith, List, [], ◌∷◌, drop, map, get_or, Option, Some, None, refl, sym, ap, ◌∙◌}
use Rattle.std.specs.Prelude.{option_and_then}
use Rattle.std.specs.List.{find}
use Rattle.std.specs.Option.{option_map}
use Rattle.csp_model.specs.Governing.{Governor, governor, governor_named, is_named, fallbacks}
use Rattle.csp_model.specs.Names.{names}
use Rattle.csp_model.specs.Reading.{first_of}
use Rattle.csp_model.specs.declared.name.Name.{Name}
use Rattle.csp_model.specs.declared.policy.Directive.{Directive}
use Rattle.csp_model.specs.declared.policy.Policy.{Policy}
use Rattle.csp_model.proofs.NamesListed.{place, kept_at_place}
use Rattle.csp_verdict.specs.Entries.{entry_of}
use Rattle.csp_verdict.specs.declared.compiled_policy.Entry.{Entry}

named : (name : Name) (o : Option Directive) (g : Governor)
    → option_map (λ d. record { name = name; directive = d }) o ≡ Some g → g.name ≡ name
named name None g e = cc
named name (Some d) g e = ap (λ (h : Option Governor). elim h [ None ↦ name | Some k ↦ k.name ]) (sym e)

-- a directive governs under its own name
pub named_so : (ds : List Directive) (name : Name) (g : Governor) → governor_named ds name ≡ Some g → g.name ≡ name
unfolding governor_named
named_so ds name g e = named name (find (is_named name) ds) g e

named_first : (ds : List Directive) (name : Name) (others : List Name) (g : Governor) (o : Option Governor)
    → governor_named ds name ≡ o → first_of (o ∷ map (governor_named ds) others) ≡ Some g
    → (first_of (map (governor_named ds) others) ≡ Some g → governor_named ds g.name ≡ Some g)
    → governor_named ds g.name ≡ Some g
named_first ds name others g None none e later = later e
named_first ds name others g (Some h) some e later =
    let is : governor_named ds name ≡ Some g = some ∙ e in
    ap (governor_named ds) (named_so ds name g is) ∙ is

pub found_named : (ds : List Directive) (others : List Name) (g : Governor)
    → first_of (map (governor_named ds) others) ≡ Some g → governor_named ds g.name ≡ Some g
found_named ds [] g e = cc
found_named ds (name ∷ others) g e =
    named_first ds name others g (governor_named ds name) refl e (found_named ds others g)

-- what governs is the first directive of its name
pub governs_named : (p : Policy) (effective : Name) (g : Governor) → governor p effective ≡ Some g
    → governor_named p.directives g.name ≡ Some g
governs_named p effective g e = found_named p.directives (fallbacks effective) g e

-- a name stands first among those that may govern where it is asked for
headed : (name : Name) → (rest : List Name) × (fallbacks name ≡ name ∷ rest)
headed name = (drop 1 (fallbacks name), grind arith)

absent : (ds : List Directive) (name : Name) (rest : List Name) (g : Governor) (o : Option Governor)
    → governor_named ds name ≡ o → first_of (o ∷ map (governor_named ds) rest) ≡ Some g → (g.name ≡ name → ⊥) → None ≡ o
absent ds name rest g None is e other = refl
absent ds name rest g (Some h) is e other = absurd (other (named_so ds name g (is ∙ e)))

-- where another name governs, the policy has no directive of this one
pub governs_by_other : (p : Policy) (name : Name) (g : Governor) → governor p name ≡ Some g → (g.name ≡ name → ⊥)
    → None ≡ governor_named p.directives name
governs_by_other p name g e other =
    let h = headed name in
    absent p.directives name h.0 g (governor_named p.directives name) refl
    (sym (ap (λ (ns : List Name). first_of (map (governor_named p.directives) ns)) h.1) ∙ e) other

-- the directive of the name that governs is what governs
pub by_name : (p : Policy) (effective : Name) (o : Option Governor) → governor p effective ≡ o
    → option_and_then (governor_named p.directives) (option_map (λ (g : Governor). g.name) o) ≡ o
by_name p effective None is = refl
by_name p effective (Some g) is = governs_named p effective g is

-- Entries

parts : (a b : Option Name) (x y : Option Governor) → a ≡ b → x ≡ y
    → ◌≡◌ {A = Entry} (record { governing = a; own = x }) (record { governing = b; own = y })
parts a b x y e f =
    ap (λ (n : Option Name). record { governing = n; own = x }) e ∙ ap (λ (g : Option Governor). record { governing = b; own = g }) f

pub entry_by_own : (p : Policy) (name : Name) (g : Governor) → governor p name ≡ Some g → g.name ≡ name
    → ◌≡◌ {A = Entry} (record { governing = Some name; own = Some g }) (entry_of p name)
entry_by_own p name g is own =
    parts (Some name) (option_map (λ (h : Governor). h.name) (governor p name)) (Some g) (governor_named p.directives name)
    (ap (λ (n : Name). Some n) (sym own) ∙ sym (ap (option_map (λ (h : Governor). h.name)) is))
    (sym (ap (governor_named p.directives) (sym own) ∙ governs_named p name g is))

pub entry_by_other : (p : Policy) (name : Name) (g : Governor) → governor p name ≡ Some g → (g.name ≡ name → ⊥)
    → ◌≡◌ {A = Entry} (record { governing = Some g.name; own = None }) (entry_of p name)
entry_by_other p name g is other =
    parts (Some g.name) (option_map (λ (h : Governor). h.name) (governor p name)) None (governor_named p.directives name)
    (sym (ap (option_map (λ (h : Governor). h.name)) is)) (governs_by_other p name g is other)

-- the entry at the place of a name is that of the name
pub entry_at : (p : Policy) (es : List Entry) (name : Name) (x : Entry) → es ≡ map (entry_of p) names
    → x ≡ get_or es (place name) x → x ≡ entry_of p name
entry_at p es name x all is = is ∙ ap (λ (l : List Entry). get_or l (place name) x) all ∙ kept_at_place (entry_of p) name x

pub nothing_governs : (p : Policy) (effective : Name) (x : Entry) → x ≡ entry_of p effective → x.governing ≡ None
    → None ≡ governor p effective
nothing_governs p effective x is none =
    let n : option_map (λ (g : Governor). g.name) (governor p effective) ≡ None = sym (ap (λ (e : Entry). e.governing) is) ∙ none in
    sym (ap (option_and_then (governor_named p.directives)) n) ∙ by_name p effective (governor p effective) refl

pub own_governs : (p : Policy) (effective name : Name) (x y : Entry) → x ≡ entry_of p effective → x.governing ≡ Some name
    → y ≡ entry_of p name → y.own ≡ governor p effective
own_governs p effective name x y is some own =
    let n : option_map (λ (g : Governor). g.name) (governor p effective) ≡ Some name = sym (ap (λ (e : Entry). e.governing) is) ∙ some in
    ap (λ (e : Entry). e.own) own ∙ sym (ap (option_and_then (governor_named p.directives)) n)
    ∙ by_name p effective (governor p effective) refl
