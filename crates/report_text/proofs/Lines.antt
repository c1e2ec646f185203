-- Parts of a record line, put together.
use Rattle.std.proofs.Common.{◌≡◌, ◌≢◌, ◌==◌, ℕ, false, List, [], ◌∷◌, ◌++◌, Some, slice_get, refl, sym, ap, ◌∙◌, append_assoc, append-nil, length, arith}
use Rattle.std.specs.Prelude.{codes, Option}
use Rattle.std.proofs.lemmas.Bool.Decides.{nat_tests}
use Rattle.std.proofs.lemmas.Option.{get_or_from_slice_get}
use Rattle.xsv_io.specs.Escaping.{escaped}
use Rattle.xs_names.specs.Names.{NameTable, space_of}
use Rattle.xs_codes.specs.declared.fault.Found.{Found}
use Rattle.xs_components.specs.Tables.{Tables}
use Rattle.xs_components.specs.declared.common.TypeId.{TypeId}
use Rattle.assess_records.specs.declared.outcome.Validity.{Validity}
use Rattle.assess_records.specs.declared.outcome.Attempted.{Attempted}
use Rattle.assess_records.specs.declared.outcome.ValueSource.{ValueSource}
use Rattle.report_text.specs.Lines.{record_text}
use Rattle.report_text.specs.Words.{space_text}

known_parts : (validity attempted source all : List ℕ)
    → (codes " " ++ (validity ++ (codes " " ++ (attempted ++ (codes " " ++ (source ++ (codes " " ++ []))))))) ++ (all ++ 10 ∷ [])
    ≡ codes " " ++ validity ++ codes " " ++ attempted ++ codes " " ++ source ++ codes " " ++ all ++ 10 ∷ []
known_parts validity attempted source all = simp append_assoc

pub known_line : (validity v attempted a source s all x : List ℕ) → v ≡ validity → a ≡ attempted → s ≡ source → x ≡ all
    → (codes " " ++ (v ++ (codes " " ++ (a ++ (codes " " ++ (s ++ (codes " " ++ []))))))) ++ (x ++ 10 ∷ [])
    ≡ codes " " ++ validity ++ codes " " ++ attempted ++ codes " " ++ source ++ codes " " ++ all ++ 10 ∷ []
known_line validity v attempted a source s all x e f g h =
    known_parts v a s x ∙ ap (λ y. codes " " ++ y ++ codes " " ++ a ++ codes " " ++ s ++ codes " " ++ x ++ 10 ∷ []) e
    ∙ ap (λ y. codes " " ++ validity ++ codes " " ++ y ++ codes " " ++ s ++ codes " " ++ x ++ 10 ∷ []) f
    ∙ ap (λ y. codes " " ++ validity ++ codes " " ++ attempted ++ codes " " ++ y ++ codes " " ++ x ++ 10 ∷ []) g
    ∙ ap (λ y. codes " " ++ validity ++ codes " " ++ attempted ++ codes " " ++ source ++ codes " " ++ y ++ 10 ∷ []) h

pub number_parts : (letter number : List ℕ) → letter ++ (codes " " ++ (number ++ (codes " " ++ []))) ≡ letter ++ codes " " ++ number ++ codes " "
number_parts letter number = simp append_assoc

pub place_parts : (document item : List ℕ) → codes "#" ++ (document ++ (codes "." ++ (item ++ []))) ≡ codes "#" ++ document ++ codes "." ++ item
place_parts document item = ap (λ l. codes "#" ++ (document ++ (codes "." ++ l))) (append-nil item) ∙ simp append_assoc

pub name_parts : (space local : List ℕ) → codes "{" ++ (space ++ (codes "}" ++ (local ++ []))) ≡ codes "{" ++ space ++ codes "}" ++ local
name_parts space local = ap (λ l. codes "{" ++ (space ++ (codes "}" ++ l))) (append-nil local) ∙ simp append_assoc

-- a code with its place
pub placed_parts : (code number : List ℕ) → code ++ (codes "@" ++ (number ++ [])) ≡ code ++ (codes "@" ++ number)
placed_parts code number = ap (λ l. code ++ (codes "@" ++ l)) (append-nil number)

-- a text and a number
pub two_parts : (text number : List ℕ) → text ++ (number ++ []) ≡ text ++ number
two_parts text number = ap (λ l. text ++ l) (append-nil number)

pub no_length : {X : Type 0} (xs : List X) → length xs ≡ 0 → xs ≡ []
no_length [] e = refl
no_length (x ∷ xs) e = cc

-- what is known of an element or an attribute, in other words
module _ (names : NameTable) (t : Tables) where
  pub same_text : (name n : ℕ) (of o : Option TypeId) (validity v : Validity) (attempted a : Attempted) (source s : ValueSource) (all x : List Found)
      → n ≡ name → o ≡ of → v ≡ validity → a ≡ attempted → s ≡ source → x ≡ all → record_text names t n o v a s x ≡ record_text names t name of validity attempted source all
  same_text name n of o validity v attempted a source s all x d e f h i k =
      ap (λ y. record_text names t y o v a s x) d
      ∙ ap (λ y. record_text names t name y v a s x) e
      ∙ ap (λ y. record_text names t name of y a s x) f
      ∙ ap (λ y. record_text names t name of validity y s x) h
      ∙ ap (λ y. record_text names t name of validity attempted y x) i
      ∙ ap (λ y. record_text names t name of validity attempted source y) k

-- a name in a namespace
space_is : (names : NameTable) (ns : ℕ) (space : List ℕ) → slice_get names.spaces ns ≡ Some space → ns ≢ 0 → space_text names ns ≡ codes "{" ++ escaped space ++ codes "}"
space_is names ns space at some =
    let other : (ns == 0) ≡ false = grind (arith, nat_tests) in
    rw other (ap (λ l. codes "{" ++ escaped l ++ codes "}") (get_or_from_slice_get names.spaces ns space [] at))

pub named_text : (names : NameTable) (name ns : ℕ) (space local : List ℕ) → ns ≡ space_of names name → slice_get names.spaces ns ≡ Some space → ns ≢ 0
    → codes "{" ++ (escaped space ++ (codes "}" ++ (escaped local ++ []))) ≡ space_text names (space_of names name) ++ escaped local
named_text names name ns space local is at some =
    name_parts (escaped space) (escaped local) ∙ ap (λ l. l ++ escaped local) (sym (space_is names ns space at some)) ∙ ap (λ n. space_text names n ++ escaped local) is
