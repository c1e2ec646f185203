-- The terms of child elements, and the place where they get stuck, by the symbols of their names (Structures 3.4.4, 3.8.4).
use Rattle.std.specs.Prelude.{ℕ, suc, ◌&&◌, not, nat_lt, Bool, false, List, [], ◌∷◌, ◌++◌, Option, None, Some, map, take, length, slice_get, slice_index, if◌then◌else◌}
use Rattle.std.specs.Option.{option_and_then}
use Rattle.std.specs.List.{range_with_len}
use Rattle.content_automaton.specs.declared.attribution.Attribution.{Attribution}
use Rattle.content_automaton.specs.Automaton.{state_of, dead_of, accepts_at, term_of}
use Rattle.content_automaton.specs.Modelled.{first_of, is_ambivalent}
use Rattle.content_models.specs.States as alls
use Rattle.content_models.specs.Modelled.{letter_of}
use Rattle.content_models.specs.declared.automaton.ContentAutomaton.{ContentAutomaton}
use Rattle.content_models.specs.declared.automaton.ContentAutomaton.TheVariants.{States, All}

-- children with these symbols begin a word of the content model: the state after them is not dead
abbrev pub begins : ContentAutomaton → List ℕ → Bool
begins (States a) symbols = nat_lt (state_of a.machine symbols) (dead_of a.machine)
begins (All a) symbols = not (alls.state_of a.machine (map (letter_of a) symbols)).dead

-- they are a word of it: the state after them accepts
abbrev pub is_word : ContentAutomaton → List ℕ → Bool
is_word (States a) symbols = accepts_at a.machine (state_of a.machine symbols)
is_word (All a) symbols = alls.accepts_at a.machine (alls.state_of a.machine (map (letter_of a) symbols))

-- the place where they get stuck, after those before: the first with which they begin no word; past the last, where all begin one
-- but are none; none where they are a word
abbrev pub stuck_after : ContentAutomaton → List ℕ → List ℕ → Option ℕ
stuck_after a before [] = if is_word a before then None else Some (length before)
stuck_after a before (n ∷ rest) = if begins a (before ++ n ∷ []) then stuck_after a (before ++ n ∷ []) rest else Some (length before)

-- the place where child elements with these symbols get stuck; without a content model there is none
abbrev pub stuck_in : Option ContentAutomaton → List ℕ → Option ℕ
stuck_in None symbols = None
stuck_in (Some a) symbols = stuck_after a [] symbols

abbrev pub is_mixed : Option Attribution → Bool
is_mixed None = false
is_mixed (Some x) = is_ambivalent x

-- terms of different classes accept the names with the symbol
abbrev pub is_ambivalent_symbol : ContentAutomaton → ℕ → Bool
is_ambivalent_symbol (States a) n = is_mixed (slice_get a.attributions n)
is_ambivalent_symbol (All a) n = is_mixed (slice_get a.attributions n)

-- the first term that accepts the names with the symbol
abbrev pub first_term : ContentAutomaton → ℕ → Option ℕ
first_term (States a) n = option_and_then (λ x. option_and_then (slice_get a.terms) (first_of x)) (slice_get a.attributions n)
first_term (All a) n = option_and_then (λ x. option_and_then (slice_get a.terms) (first_of x)) (slice_get a.attributions n)

-- the term at the place that ends every marked prefix with the symbols before and this one
abbrev pub term_after : ContentAutomaton → List ℕ → ℕ → Option ℕ
term_after (States a) before n = option_and_then (slice_get a.terms) (term_of a.machine (state_of a.machine (before ++ n ∷ [])))
term_after (All a) before n = slice_get a.terms (letter_of a n)

-- the term of the child at a place: where its symbol is ambivalent and the children up to it begin a word, the term at the place
-- that ends every marked prefix; else the first that accepts its name
abbrev pub term_by : ContentAutomaton → List ℕ → ℕ → ℕ → Option ℕ
term_by a symbols place n =
    if is_ambivalent_symbol a n && begins a (take (suc place) symbols) then term_after a (take place symbols) n else first_term a n

-- so, by the symbols of all children; without a content model no child has a term
abbrev pub term_in : Option ContentAutomaton → List ℕ → ℕ → Option ℕ
term_in None symbols place = None
term_in (Some a) symbols place = term_by a symbols place (slice_index symbols place)

-- the terms of all children
abbrev pub terms_in : Option ContentAutomaton → List ℕ → List (Option ℕ)
terms_in a symbols = map (term_in a symbols) (range_with_len 0 (length symbols))
