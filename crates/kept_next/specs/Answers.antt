-- What is asked of a place among child elements, and what is answered.
use Rattle.std.specs.Prelude.{◌≡◌, ℕ, ◌+◌, ◌*◌, ◌<◌, List, [], ◌∷◌, ◌++◌, All, map, length, slice_index_or, codes}
use Rattle.std.specs.Fmt.{decimal}
use Rattle.std.specs.List.{range_with_len}
use Rattle.xs_names.specs.Names.{NameTable, IsSound}
use Rattle.child_trees.specs.Bits.{bits}
use Rattle.content_automaton.specs.Symbols.{SymbolTable, AreSymbolsOf, symbol_of}
use Rattle.content_automaton.specs.Terms.{ExpandedName}
use Rattle.content_models.specs.Built.{symbols_of}
use Rattle.content_models.specs.Terms.{model_terms}
use Rattle.assessment.specs.Attribution.{SchemaSet}
use Rattle.kept_next.specs.Next.{FitsAs, IsNamed, next_line, lines_of}
use Rattle.kept_next.specs.Order.{IsOrderOf}
use Rattle.kept_next.specs.declared.order.Symbol.{Symbol}
use Rattle.kept_next.specs.declared.symbol.Fit.{Fit}
use Rattle.kept_next.specs.declared.symbol.Fit.TheVariants.{No}
use Rattle.kept_next.specs.declared.symbol.SymbolName.{SymbolName}
use Rattle.kept_next.specs.declared.symbol.SymbolName.TheVariants.{Other}
use Rattle.kept_next.specs.Place.{ListPlace, name_at, fits_at}
use Rattle.kept_next.specs.Words.{IsNameOf, IsWordBy}

-- by a schema set, the particle of a content model, and the names of the child elements before a place and from it on
pub record PlaceQuestion : Type 0 where
  pub set : SchemaSet
  pub particle : ℕ
  pub before : List ExpandedName
  pub behind : List ExpandedName

-- a symbol, and how it fits at the place
abbrev pub Answer : Type 0
Answer = SymbolName × Fit

abbrev pub answer_at : List Answer → ℕ → Answer
answer_at answers n = slice_index_or answers n (Other, No)

-- These are the symbols of the content model in the order in which they are printed, and the table of the set has what they stand for; and each name that a symbol stands for fits at the place
-- as its answer says, by the words of the content model (Structures 3.8.4).
pub record AreAnswers (q : PlaceQuestion) (answers : List Answer) : Type 0 where
  pub table : SymbolTable
  pub table_is : AreSymbolsOf (model_terms q.set.members q.set.parts q.set.classes q.particle) table
  pub sound : IsSound q.set.names
  pub symbols : List Symbol
  pub ordered : IsOrderOf q.set.names table.names table.spaces symbols
  pub named : All (λ (x : Symbol). IsNamed q.set.names x.name) symbols
  pub symbols_are : map (λ (a : Answer). a.0) answers ≡ map (λ (x : Symbol). x.name) symbols
  pub fits : (n : ℕ) → n < length answers → (name : ExpandedName) → IsNameOf q.set.names table (answer_at answers n).0 name →
      FitsAs (IsWordBy q.set q.particle) q.before q.behind name (answer_at answers n).1

-- what a place of a list answers, where its child elements have these symbols
abbrev pub answers_of : ListPlace → List ℕ → List Answer
answers_of v symbols = map (λ n. (name_at v n, fits_at v symbols n)) (range_with_len 0 (length v.symbols))

-- the answers of a place of a list of child elements with these names, by a schema set
abbrev pub answers_by : ListPlace → SchemaSet → List ExpandedName → List Answer
answers_by v s names = answers_of v (map (symbol_of s.names (symbols_of v.automaton)) names)

-- ---- the reply

abbrev pub lines : NameTable → List Answer → List ℕ
lines names [] = []
lines names (a ∷ more) = next_line names a.0 a.1 ++ lines names more

-- how many symbols fit
abbrev pub count : List Answer → ℕ
count [] = 0
count (a ∷ more) = lines_of a.1 + count more

-- a line for each symbol that fits, and how many there are
abbrev pub reply : NameTable → List Answer → List ℕ
reply names answers = lines names answers ++ (codes "names " ++ decimal (count answers) ++ 10 ∷ [])

-- so many steps the answers cost at most, where the element has so many children and the content model so many symbols
abbrev pub cost : ℕ → ℕ → ℕ
cost children symbols = 8 * (bits (children + 1) + 1) * (1 + symbols) + symbols
