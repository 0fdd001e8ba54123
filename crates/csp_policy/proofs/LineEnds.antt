-- Printed values have no line feed, so that lines of them can be told apart.
use Rattle.std.proofs.Common.{arith, ◌≡◌, ◌≢◌, sym, ap₂, refl, ℕ, zero, suc, ◌+◌, ◌/◌, ◌%◌, ◌<◌, ◌≤◌, ◌^◌, Bool, true, false, cond, ◌==◌, ◌||◌, nat_lt, List, [], ◌∷◌, ◌++◌, length, get_or, decimal, inl, inr, ◌⊎◌, subst}
use Rattle.std.specs.Prelude.{⊤}
use Rattle.std.proofs.lemmas.Bool.{cases_eq}
use Rattle.std.proofs.lemmas.Fmt.{decimal_is_IsNumeral, decimal_digit}
use Rattle.std.proofs.lemmas.Str.Parse.{digit_at}
use Rattle.json.specs.Print.{IsNumber, ArePrintable, ends, escape, escape_byte, escape_letter, print_from, quoted, separator, token_text}
use Rattle.json.specs.Token.{Token, begin_object, end_object, begin_array, end_array, key, string, number, boolean, null, bad}

abbrev pub NoFeed : List ℕ → Type 0
NoFeed [] = ⊤
NoFeed (c ∷ cs) = (c ≢ 10) × NoFeed cs

feed_append : (xs ys : List ℕ) → NoFeed xs → NoFeed ys → NoFeed (xs ++ ys)
feed_append [] ys h k = k
feed_append (x ∷ xs) ys h k = (h.0, feed_append xs ys h.1 k)

either : (b : Bool) (xs ys : List ℕ) → NoFeed xs → NoFeed ys → NoFeed (cond b xs ys)
either true xs ys h k = h
either false xs ys h k = k

-- Escapes

letter : (x : ℕ) (a b c d e f : Bool) → x ≢ 10
    → cond a x (cond b 98 (cond c 102 (cond d 110 (cond e 114 (cond f 116 0))))) ≢ 10
letter x true b c d e f other = other
letter x false true c d e f other = λ is. absurd (cc is)
letter x false false true d e f other = λ is. absurd (cc is)
letter x false false false true e f other = λ is. absurd (cc is)
letter x false false false false true f other = λ is. absurd (cc is)
letter x false false false false false true other = λ is. absurd (cc is)
letter x false false false false false false other = λ is. absurd (cc is)

ne92 : ◌≢◌ {A = ℕ} 92 10
ne92 is = cc is

ne117 : ◌≢◌ {A = ℕ} 117 10
ne117 is = cc is

ne48 : ◌≢◌ {A = ℕ} 48 10
ne48 is = cc is

digit : (b : Bool) (d : ℕ) → cond b (48 + d) (87 + d) ≢ 10
digit true d is = absurd (omega (arith, is))
digit false d is = absurd (omega (arith, is))

other_byte : (x : ℕ) → x ≢ 10 → NoFeed (escape_byte x)
unfolding escape_byte
other_byte x other =
    either (nat_lt 0 (escape_letter x)) _ _
    (ne92, (letter x ((x == 34) || (x == 92)) (x == 8) (x == 12) (x == 10) (x == 13) (x == 9) other, tt))
    (either (nat_lt x 32) _ _
    (ne92, (ne117, (ne48, (ne48, (digit (nat_lt (x / 16) 10) (x / 16), (digit (nat_lt (x % 16) 10) (x % 16), tt))))))
    (other, tt))

feed_itself : NoFeed (escape_byte 10)
unfolding escape_byte
feed_itself = ((λ is. absurd (cc is)), ((λ is. absurd (cc is)), tt))

byte : (x : ℕ) → NoFeed (escape_byte x)
byte x = go (cases_eq x 10)
  where
    go : (x ≡ 10) ⊎ (x ≡ 10 → ⊥) → NoFeed (escape_byte x)
    go (inl is) = subst (λ (c : ℕ). NoFeed (escape_byte c)) (sym is) feed_itself
    go (inr other) = other_byte x other

escaped : (s : List ℕ) → NoFeed (escape s)
escaped [] = tt
escaped (x ∷ s) = feed_append (escape_byte x) (escape s) (byte x) (escaped s)

quotes : (s : List ℕ) → NoFeed (quoted s)
quotes s = ((λ is. absurd (cc is)), feed_append (escape s) (34 ∷ []) (escaped s) ((λ is. absurd (cc is)), tt))

-- Numbers

digits : (ds : List ℕ) → ((i : ℕ) → i < length ds → 48 ≤ get_or ds i 0) → NoFeed ds
digits [] each = tt
digits (d ∷ ds) each =
    let first : 48 ≤ d = each 0 (omega arith) in
    ((λ is. absurd (omega (arith, first, is))), digits ds (λ i within. each (suc i) (omega (arith, within))))

pub no_feed_in_decimal : (n : ℕ) → n < 2 ^ 64 → NoFeed (decimal n)
no_feed_in_decimal zero few = subst NoFeed (sym (decimal_digit 0 (omega arith))) ((λ is. absurd (cc is)), tt)
no_feed_in_decimal (suc n) few = digits (decimal (suc n)) (λ i within. (digit_at _ i (decimal_is_IsNumeral (suc n) few).0.1 within).0)

-- Tokens

-- it can be printed, and has no line feed then
abbrev pub IsPlain : Token → Type 0
IsPlain begin_object = ⊤
IsPlain end_object = ⊤
IsPlain begin_array = ⊤
IsPlain end_array = ⊤
IsPlain (key s) = ⊤
IsPlain (string s) = ⊤
IsPlain (number s) = IsNumber s × NoFeed s
IsPlain (boolean b) = ⊤
IsPlain null = ⊤
IsPlain bad = ⊥

abbrev pub ArePlain : List Token → Type 0
ArePlain [] = ⊤
ArePlain (t ∷ ts) = IsPlain t × ArePlain ts

pub plain_append : (ts us : List Token) → ArePlain ts → ArePlain us → ArePlain (ts ++ us)
plain_append [] us h k = k
plain_append (t ∷ ts) us h k = (h.0, plain_append ts us h.1 k)

pub printable : (ts : List Token) → ArePlain ts → ArePrintable ts
unfolding ArePrintable
printable [] h = tt
printable (begin_object ∷ ts) h = (tt, printable ts h.1)
printable (end_object ∷ ts) h = (tt, printable ts h.1)
printable (begin_array ∷ ts) h = (tt, printable ts h.1)
printable (end_array ∷ ts) h = (tt, printable ts h.1)
printable (key s ∷ ts) h = (tt, printable ts h.1)
printable (string s ∷ ts) h = (tt, printable ts h.1)
printable (number s ∷ ts) h = (h.0.0, printable ts h.1)
printable (boolean b ∷ ts) h = (tt, printable ts h.1)
printable (null ∷ ts) h = (tt, printable ts h.1)
printable (bad ∷ ts) h = absurd h.0

one_text : (t : Token) → IsPlain t → NoFeed (token_text t)
one_text begin_object h = ((λ is. absurd (cc is)), tt)
one_text end_object h = ((λ is. absurd (cc is)), tt)
one_text begin_array h = ((λ is. absurd (cc is)), tt)
one_text end_array h = ((λ is. absurd (cc is)), tt)
one_text (key s) h = feed_append (quoted s) (58 ∷ []) (quotes s) ((λ is. absurd (cc is)), tt)
one_text (string s) h = quotes s
one_text (number s) h = h.1
one_text (boolean true) h = ((λ is. absurd (cc is)), ((λ is. absurd (cc is)), ((λ is. absurd (cc is)), ((λ is. absurd (cc is)), tt))))
one_text (boolean false) h =
    ((λ is. absurd (cc is)), ((λ is. absurd (cc is)), ((λ is. absurd (cc is)), ((λ is. absurd (cc is)), ((λ is. absurd (cc is)), tt)))))
one_text null h = ((λ is. absurd (cc is)), ((λ is. absurd (cc is)), ((λ is. absurd (cc is)), ((λ is. absurd (cc is)), tt))))
one_text bad h = absurd h

pub no_feed_in_print : (after : Bool) (ts : List Token) → ArePlain ts → NoFeed (print_from after ts)
unfolding print_from
no_feed_in_print after [] h = tt
no_feed_in_print after (t ∷ ts) h =
    feed_append (separator after t) (token_text t ++ print_from (ends t) ts)
    (either _ (44 ∷ []) [] ((λ is. absurd (cc is)), tt) tt)
    (feed_append (token_text t) (print_from (ends t) ts) (one_text t h.0) (no_feed_in_print (ends t) ts h.1))

-- Lines

-- two texts that begin with lines begin with the same line
pub same_line : (xs ys rest other : List ℕ) → NoFeed xs → NoFeed ys → xs ++ 10 ∷ rest ≡ ys ++ 10 ∷ other
    → (xs ≡ ys) × (rest ≡ other)
same_line [] [] rest other h k is = (refl, cc is)
same_line [] (y ∷ ys) rest other h k is = absurd (k.0 (sym (cc is)))
same_line (x ∷ xs) [] rest other h k is = absurd (h.0 (cc is))
same_line (x ∷ xs) (y ∷ ys) rest other h k is =
    let behind : xs ++ 10 ∷ rest ≡ ys ++ 10 ∷ other = cc is in
    let first : x ≡ y = cc is in
    let found = same_line xs ys rest other h.1 k.1 behind in
    (ap₂ (λ (a : ℕ) (b : List ℕ). a ∷ b) first found.0, found.1)

pub some_line : (xs rest : List ℕ) → [] ≢ (xs ++ 10 ∷ []) ++ rest
some_line [] rest is = absurd (cc is)
some_line (x ∷ xs) rest is = absurd (cc is)
