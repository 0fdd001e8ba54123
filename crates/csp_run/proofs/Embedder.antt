-- What `embed` asks for, by what its words are read as.
use Rattle.std.proofs.Common.{◌≡◌, ◌≢◌, ◌∙◌, ◌<◌, ◌≤◌, sym, ap, ℕ, List, [], ◌∷◌, length, get_or, Option, Some, None, Ok, Err, ok_or, arith}
use Rattle.csp_model.specs.declared.url.Origin.{Origin}
use Rattle.csp_url.specs.Origins.{origin_of}
use Rattle.csp_url.specs.declared.error.OriginError.{OriginError}
use Rattle.csp_url.specs.declared.error.OriginError.TheVariants as origin_error
use Rattle.csp_run.specs.Forms.{Embed}
use Rattle.csp_run.specs.Shown.{file_as, origin_fault, words_end}
use Rattle.csp_run.specs.Words.{File, embed_plan, with_command, with_embedder}
use Rattle.csp_run.specs.declared.fault.Fault.{Fault}
use Rattle.csp_run.specs.declared.fault.Fault.TheVariants as fault
use Rattle.csp_run.specs.declared.fault.Role.TheVariants as role

three : (words : List (List ℕ)) (a b c : List ℕ) → 3 ≤ length words → length words < 4 → a ≡ get_or words 0 a
    → b ≡ get_or words 1 b → c ≡ get_or words 2 c → words ≡ a ∷ b ∷ c ∷ []
three [] a b c least most is_a is_b is_c = absurd (omega (arith, least))
three (x ∷ []) a b c least most is_a is_b is_c = absurd (omega (arith, least))
three (x ∷ y ∷ []) a b c least most is_a is_b is_c = absurd (omega (arith, least))
three (x ∷ y ∷ z ∷ []) a b c least most is_a is_b is_c =
    ap (λ l. l ∷ y ∷ z ∷ []) (sym is_a) ∙ ap (λ l. a ∷ l ∷ z ∷ []) (sym is_b) ∙ ap (λ l. a ∷ b ∷ l ∷ []) (sym is_c)
three (x ∷ y ∷ z ∷ w ∷ words) a b c least most is_a is_b is_c = absurd (omega (arith, most))

pub of_three : (embedder : List ℕ) (words : List (List ℕ)) (a b c : List ℕ) → 3 ≤ length words → length words < 4
    → a ≡ get_or words 0 a → b ≡ get_or words 1 b → c ≡ get_or words 2 c
    → embed_plan embedder words
    ≡ with_embedder (Some (file_as role.Required b ∷ file_as role.Response c ∷ [])) (origin_of embedder) a
of_three embedder words a b c least most is_a is_b is_c =
    ap (embed_plan embedder) (three words a b c least most is_a is_b is_c)

pub refused_so : (o : Option Origin) (e : OriginError) (f : Fault) (files : List File) (word : List ℕ)
    → f ≡ origin_fault e → (e ≢ origin_error.Memory → ok_or o origin_error.BadOrigin ≡ Err e)
    → f ≢ fault.Memory → Err f ≡ words_end (with_embedder (Some files) o word)
refused_so None origin_error.BadOrigin f files word is gives real = ap (λ (g : Fault). Err g) is
refused_so (Some x) origin_error.BadOrigin f files word is gives real =
    absurd (cc (gives (λ same. cc same)))
refused_so o origin_error.Memory f files word is gives real = absurd (real is)

pub found_so : (o : Option Origin) (e : Origin) (files : List File) (word : List ℕ)
    → ok_or o origin_error.BadOrigin ≡ Ok e
    → with_command (Some (record { form = Embed e; files = files })) word ≡ with_embedder (Some files) o word
found_so (Some x) e files word is =
    let same : x ≡ e = cc is in
    ap (λ (y : Origin). with_embedder (Some files) (Some y) word) (sym same)
found_so None e files word is = absurd (cc is)
