-- A path by the pieces between its separators.
use Rattle.std.proofs.Common.{◌≡◌, ℕ, ◌==◌, ◌+◌, Bool, true, false, List, [], ◌∷◌, ◌++◌, Option, Result, Ok, map, length, refl, sym, ◌∙◌, ap, subst, arith}
use Rattle.std.specs.Prelude.{codes}
use Rattle.std.specs.List.{slice_split}
use Rattle.std.specs.Option.{option_map, option_and_then}
use Rattle.std.proofs.lemmas.List.{map-append}
use Rattle.std.proofs.lemmas.Simd.{map-map}
use Rattle.xpath_subset.specs.declared.path.Path.{Path}
use Rattle.xpath_subset.specs.declared.reading.Refusal.{Refusal}
use Rattle.xpath_subset.specs.Grammar.{WrittenTest, WrittenStep, itself, child, attribute, WrittenPath, IsTest, IsElementStep, EndsIn, StartsAnywhere, IsPath, steps_meaning, to_elements, way_meaning, path_meaning}
use Rattle.xpath_subset.specs.inside.Gives.{Gives, AreWritten, AreWrittenAndLast, IsAfter, LacksToken}
use Rattle.xpath_subset.specs.inside.Lasts.{EndsAtElement, EndsAtAttribute}
use Rattle.xpath_subset.specs.inside.Trims.{is_white_byte, trim_white, IsTrimmed, IsTight}
use Rattle.xpath_subset.proofs.Trims.{front_white, tight-join}
use Rattle.xpath_subset.proofs.Pieces.{IsPlain, split_at, pieces-from_EndsIn, EndsIn-from_pieces}
use Rattle.xpath_subset.proofs.Plain.{slash_apart, element_plain, ends_plain}
use Rattle.xpath_subset.proofs.Lists.{written_more, written_cut}
use Rattle.xpath_subset.proofs.Moves.{gives_move, after_follows, follows_after}

-- texts that are written one by one, and then the last
module _ {A B : Type 0} (I : A → List ℕ → Type 0) (L : B → List ℕ → Type 0) where
  pub last_cut : (items : List A) (last : B) (front : List (List ℕ)) (p : List ℕ) → AreWrittenAndLast I L items last (front ++ p ∷ []) → AreWritten I items front × L last p
  last_cut [] last [] p are = (tt, are)
  last_cut [] last (t ∷ []) p are = absurd are
  last_cut [] last (t ∷ u ∷ front) p are = absurd are
  last_cut (item ∷ items) last [] p are = absurd are.1
  last_cut (item ∷ items) last (t ∷ front) p are = let rest = last_cut items last front p are.1 in ((are.0, rest.0), rest.1)

  pub last_join : (items : List A) (last : B) (front : List (List ℕ)) (p : List ℕ) → AreWritten I items front → L last p → AreWrittenAndLast I L items last (front ++ p ∷ [])
  last_join [] last [] p are is = is
  last_join [] last (t ∷ front) p are is = absurd are
  last_join (item ∷ items) last [] p are is = absurd are
  last_join (item ∷ items) last (t ∷ front) p are is = (are.0, last_join items last front p are.1 is)

-- there is a last piece
pub last_piece : (pieces : List (List ℕ)) (n : ℕ) → length pieces ≡ n + 1 → (front : List (List ℕ)) × (p : List ℕ) × (pieces ≡ front ++ p ∷ [])
last_piece [] n e = absurd (let none : 0 ≡ n + 1 = e in omega (arith, none))
last_piece (p ∷ pieces) n e = by p pieces
  where
    by : (p : List ℕ) (pieces : List (List ℕ)) → (front : List (List ℕ)) × (last : List ℕ) × (p ∷ pieces ≡ front ++ last ∷ [])
    by p [] = ([], p, refl)
    by p (q ∷ pieces) = let rest = by q pieces in (p ∷ rest.0, rest.1, ap (λ more. p ∷ more) rest.2)

-- the last one is like the others
pub gives_alike : {W V : Type 0} (I : W → List ℕ → Type 0) (n : List W → Option V) (front : List (List ℕ)) (p : List ℕ) (r : Result (Option V) Refusal) → Gives (λ ws. AreWritten I ws (front ++ p ∷ [])) n r → Gives {W = List W × W} (λ w. AreWrittenAndLast I I w.0 w.1 (front ++ p ∷ [])) (λ w. n (w.0 ++ w.1 ∷ [])) r
gives_alike {W = W} I n front p r gives = gives_move (λ ws. AreWritten I ws (front ++ p ∷ [])) n (λ (w : List W × W). AreWrittenAndLast I I w.0 w.1 (front ++ p ∷ [])) (λ w. n (w.0 ++ w.1 ∷ []))
    (λ ws are. let cut = written_cut I ws front p are in ((cut.0, cut.1), last_join I I cut.0 cut.1 front p cut.3 cut.4))
    (λ w are. let cut = last_cut I I w.0 w.1 front p are in (w.0 ++ w.1 ∷ [], written_more I w.0 w.1 front p cut.0 cut.1, refl))
    r gives

-- a path whose last step goes to elements, and one whose last step goes to attributes
element_meaning : (scope : List (List ℕ × ℕ)) (anywhere : Bool) (items : List WrittenStep) (last : WrittenStep) (p : List ℕ) → IsElementStep last p → way_meaning scope anywhere items last ≡ option_map (to_elements anywhere) (steps_meaning scope (items ++ last ∷ []))
element_meaning scope anywhere items itself p is = refl
element_meaning scope anywhere items (child axis test) p is = refl
element_meaning scope anywhere items (attribute axis test) p is = absurd is

module _ (scope : List (List ℕ × ℕ)) (anywhere : Bool) (L : WrittenStep → List ℕ → Type 0) (front : List (List ℕ)) (p : List ℕ) where
  pub gives_to_element : ((step : WrittenStep) → IsElementStep step p → L step p) → EndsAtElement L p → (r : Result (Option Path) Refusal)
      → Gives (λ ws. AreWritten IsElementStep ws (front ++ p ∷ [])) (λ ws. option_map (to_elements anywhere) (steps_meaning scope ws)) r
      → Gives {W = List WrittenStep × WrittenStep} (λ w. AreWrittenAndLast IsElementStep L w.0 w.1 (front ++ p ∷ [])) (λ w. way_meaning scope anywhere w.0 w.1) r
  gives_to_element into ends r gives = gives_move (λ ws. AreWritten IsElementStep ws (front ++ p ∷ [])) (λ ws. option_map (to_elements anywhere) (steps_meaning scope ws)) (λ (w : List WrittenStep × WrittenStep). AreWrittenAndLast IsElementStep L w.0 w.1 (front ++ p ∷ [])) (λ w. way_meaning scope anywhere w.0 w.1)
      (λ ws are. let cut = written_cut IsElementStep ws front p are in ((cut.0, cut.1), last_join IsElementStep L cut.0 cut.1 front p cut.3 (into cut.1 cut.4)))
      (λ w are. let cut = last_cut IsElementStep L w.0 w.1 front p are in let is = ends w.1 cut.1 in (w.0 ++ w.1 ∷ [], written_more IsElementStep w.0 w.1 front p cut.0 is, element_meaning scope anywhere w.0 w.1 p is))
      r gives

  pub gives_to_attribute : (end : List ℕ) → EndsAtAttribute L p end → (r : Result (Option Path) Refusal)
      → Gives {W = List WrittenStep × WrittenTest} (λ w. AreWritten IsElementStep w.0 front × IsTest w.1 end) (λ w. way_meaning scope anywhere w.0 (attribute false w.1)) r
      → Gives {W = List WrittenStep × WrittenStep} (λ w. AreWrittenAndLast IsElementStep L w.0 w.1 (front ++ p ∷ [])) (λ w. way_meaning scope anywhere w.0 w.1) r
  gives_to_attribute end ends r gives = gives_move (λ (w : List WrittenStep × WrittenTest). AreWritten IsElementStep w.0 front × IsTest w.1 end) (λ w. way_meaning scope anywhere w.0 (attribute false w.1)) (λ (w : List WrittenStep × WrittenStep). AreWrittenAndLast IsElementStep L w.0 w.1 (front ++ p ∷ [])) (λ w. way_meaning scope anywhere w.0 w.1)
      (λ w is. ((w.0, attribute ends.axis w.1), last_join IsElementStep L w.0 (attribute ends.axis w.1) front p is.0 (ends.step w.1 is.1)))
      (λ w are. let cut = last_cut IsElementStep L w.0 w.1 front p are in let at = ends.test w.1 cut.1 in ((w.0, at.1), (cut.0, at.3), ap (way_meaning scope anywhere w.0) at.2))
      r gives

-- the pieces of a text, and the text
pub gives_text : {A B V : Type 0} (sep : ℕ) (I : A → List ℕ → Type 0) (L : B → List ℕ → Type 0) (apart : (b : ℕ) → is_white_byte b ≡ true → b == sep ≡ false) (same : sep == sep ≡ true)
    (item_plain : (item : A) (text : List ℕ) → I item text → IsPlain (λ b. b == sep) text) (last_plain : (last : B) (text : List ℕ) → L last text → IsPlain (λ b. b == sep) text)
    (m : List A × B → Option V) (text : List ℕ) → IsTrimmed text → (r : Result (Option V) Refusal)
    → Gives (λ w. AreWrittenAndLast I L w.0 w.1 (map trim_white (slice_split (λ b. b == sep) text))) m r → Gives (λ w. EndsIn sep I L w.0 w.1 text) m r
gives_text {A = A} {B = B} sep I L apart same item_plain last_plain m text trimmed r gives = gives_move (λ (w : List A × B). AreWrittenAndLast I L w.0 w.1 (map trim_white (slice_split (λ b. b == sep) text))) m (λ (w : List A × B). EndsIn sep I L w.0 w.1 text) m
    (λ w are. (w, subst (EndsIn sep I L w.0 w.1) trimmed.front (EndsIn-from_pieces sep I L apart same item_plain last_plain w.0 w.1 text trimmed.end are)))
    (λ w ends. (w, pieces-from_EndsIn sep I L apart same item_plain last_plain w.0 w.1 text ends, refl))
    r gives

-- what a path is after `.//`, and without it
nothing_tight : IsTight [] → ⊥
nothing_tight tight = let e : 0 ≡ 1 = ap length (sym (front_white 32 [] refl) ∙ tight.begins (32 ∷ [])) in omega (arith, e)

module _ (L : WrittenStep → List ℕ → Type 0) (slash : (step : WrittenStep) (text : List ℕ) → L step text → IsPlain (λ b. b == 47) text) where
  no_empty : (items : List WrittenStep) (last : WrittenStep) (first : List ℕ) (rest : List (List ℕ)) → AreWrittenAndLast IsElementStep L items last (first ∷ [] ∷ rest) → ⊥
  no_empty [] last first rest are = are
  no_empty (item ∷ []) last first [] are = nothing_tight (slash last [] are.1).tight
  no_empty (item ∷ []) last first (t ∷ rest) are = are.1
  no_empty (item ∷ next ∷ items) last first rest are = nothing_tight (element_plain (λ b. b == 47) slash_apart next [] are.1.0).tight

  two_slashes : (items : List WrittenStep) (last : WrittenStep) (text more : List ℕ) → text ≡ codes ".//" ++ more → EndsIn 47 IsElementStep L items last text → ⊥
  two_slashes items last text more is ends =
      let cut : slice_split (λ b. b == 47) text ≡ (46 ∷ []) ∷ [] ∷ slice_split (λ b. b == 47) more = ap (slice_split (λ b. b == 47)) is ∙ split_at (λ b. b == 47) (46 ∷ []) 47 (47 ∷ more) refl refl ∙ ap (λ t. (46 ∷ []) ∷ t) (split_at (λ b. b == 47) [] 47 more refl refl) in
      let are = pieces-from_EndsIn 47 IsElementStep L slash_apart.white refl (element_plain (λ b. b == 47) slash_apart) slash items last text ends in
      no_empty items last (trim_white (46 ∷ [])) (map trim_white (slice_split (λ b. b == 47) more)) (subst (λ pieces. AreWrittenAndLast IsElementStep L items last (map trim_white pieces)) cut are)

  pub gives_here : (scope : List (List ℕ × ℕ)) (text : List ℕ) → LacksToken (codes ".//") text → (r : Result (Option Path) Refusal)
      → Gives {W = List WrittenStep × WrittenStep} (λ w. EndsIn 47 IsElementStep L w.0 w.1 text) (λ w. way_meaning scope false w.0 w.1) r → Gives (λ path. IsPath L path text) (path_meaning scope) r
  gives_here scope text lacks r gives = gives_move (λ (w : List WrittenStep × WrittenStep). EndsIn 47 IsElementStep L w.0 w.1 text) (λ w. way_meaning scope false w.0 w.1) (λ path. IsPath L path text) (path_meaning scope)
      (λ w ends. (record { anywhere = false; steps = w.0; last = w.1 }, ends))
      (λ path is. by path path.anywhere refl is)
      r gives
    where
      by : (path : WrittenPath) (anywhere : Bool) → path.anywhere ≡ anywhere → StartsAnywhere anywhere (EndsIn 47 IsElementStep L path.steps path.last) text → (w : List WrittenStep × WrittenStep) × EndsIn 47 IsElementStep L w.0 w.1 text × (path_meaning scope path ≡ way_meaning scope false w.0 w.1)
      by path false e is = ((path.steps, path.last), is, ap (λ b. way_meaning scope b path.steps path.last) e)
      by path true e is = absurd (lacks (is.0 ++ is.1) is.2)

  pub gives_anywhere : ((step : WrittenStep) (text : List ℕ) → L step text → IsPlain (λ b. b == 124) text) → (scope : List (List ℕ × ℕ)) (text rest : List ℕ) → IsAfter (codes ".//") text rest → (r : Result (Option Path) Refusal)
      → Gives {W = List WrittenStep × WrittenStep} (λ w. EndsIn 47 IsElementStep L w.0 w.1 rest) (λ w. way_meaning scope true w.0 w.1) r → Gives (λ path. IsPath L path text) (path_meaning scope) r
  gives_anywhere bar scope text rest after r gives = gives_move (λ (w : List WrittenStep × WrittenStep). EndsIn 47 IsElementStep L w.0 w.1 rest) (λ w. way_meaning scope true w.0 w.1) (λ path. IsPath L path text) (path_meaning scope)
      (λ w ends. (record { anywhere = true; steps = w.0; last = w.1 }, after_follows (EndsIn 47 IsElementStep L w.0 w.1) (codes ".//") text rest after ends))
      (λ path is. by path path.anywhere refl is)
      r gives
    where
      by : (path : WrittenPath) (anywhere : Bool) → path.anywhere ≡ anywhere → StartsAnywhere anywhere (EndsIn 47 IsElementStep L path.steps path.last) text → (w : List WrittenStep × WrittenStep) × EndsIn 47 IsElementStep L w.0 w.1 rest × (path_meaning scope path ≡ way_meaning scope true w.0 w.1)
      by path false e is = absurd (two_slashes path.steps path.last text after.0 after.1 is)
      by path true e is = ((path.steps, path.last), follows_after (EndsIn 47 IsElementStep L path.steps path.last) (λ t ends. (ends_plain L bar path.steps path.last t ends).tight) (codes ".//") text rest after is, ap (λ b. way_meaning scope b path.steps path.last) e)

-- a text of tight items is tight
pub ends_tight : {A B : Type 0} (sep : ℕ) (I : A → List ℕ → Type 0) (L : B → List ℕ → Type 0) → IsTight (sep ∷ []) → ((item : A) (text : List ℕ) → I item text → IsTight text) → ((last : B) (text : List ℕ) → L last text → IsTight text) → (items : List A) (last : B) (text : List ℕ) → EndsIn sep I L items last text → IsTight text
ends_tight sep I L mark item_tight last_tight [] last text ends = last_tight last text ends
ends_tight sep I L mark item_tight last_tight (item ∷ items) last text ends =
    let rest = ends_tight sep I L mark item_tight last_tight items last ends.6.1 ends.6.4 in
    subst IsTight (sym ends.3) (tight-join ends.0 ends.1 ends.2 (item_tight item ends.0 ends.5) (subst IsTight (sym ends.6.2) (tight-join (sep ∷ []) ends.6.0 ends.6.1 mark rest)))

-- the last of the pieces that were cut, and the pieces before it
map_last : {X : Type 0} (f : X → List ℕ) (xs front : List X) (last : X) → xs ≡ front ++ last ∷ [] → (p : List ℕ) → p ≡ f last → map f xs ≡ map f front ++ p ∷ []
map_last f xs front last e p is = ap (map f) e ∙ map-append f front (last ∷ []) ∙ ap (λ t. map f front ++ t ∷ []) (sym is)

module _ {X : Type 0} (f : X → List ℕ) (xs front : List X) (last : X) (e : xs ≡ front ++ last ∷ []) (p : List ℕ) (is : p ≡ f last) (scope : List (List ℕ × ℕ)) (anywhere : Bool) (L : WrittenStep → List ℕ → Type 0) where
  pub pieces_element : ((step : WrittenStep) → IsElementStep step p → L step p) → EndsAtElement L p → (r : Result (Option Path) Refusal)
      → Gives (λ ws. AreWritten IsElementStep ws (map f xs)) (λ ws. option_map (to_elements anywhere) (steps_meaning scope ws)) r
      → Gives {W = List WrittenStep × WrittenStep} (λ w. AreWrittenAndLast IsElementStep L w.0 w.1 (map f xs)) (λ w. way_meaning scope anywhere w.0 w.1) r
  pieces_element into ends r gives =
      let same = map_last f xs front last e p is in
      subst (λ ts. Gives {W = List WrittenStep × WrittenStep} (λ w. AreWrittenAndLast IsElementStep L w.0 w.1 ts) (λ w. way_meaning scope anywhere w.0 w.1) r) (sym same)
      (gives_to_element scope anywhere L (map f front) p into ends r (subst (λ ts. Gives (λ ws. AreWritten IsElementStep ws ts) (λ ws. option_map (to_elements anywhere) (steps_meaning scope ws)) r) same gives))

  pub pieces_attribute : (end : List ℕ) → EndsAtAttribute L p end → (r : Result (Option Path) Refusal)
      → Gives {W = List WrittenStep × WrittenTest} (λ w. AreWritten IsElementStep w.0 (map f front) × IsTest w.1 end) (λ w. way_meaning scope anywhere w.0 (attribute false w.1)) r
      → Gives {W = List WrittenStep × WrittenStep} (λ w. AreWrittenAndLast IsElementStep L w.0 w.1 (map f xs)) (λ w. way_meaning scope anywhere w.0 w.1) r
  pieces_attribute end ends r gives = subst (λ ts. Gives {W = List WrittenStep × WrittenStep} (λ w. AreWrittenAndLast IsElementStep L w.0 w.1 ts) (λ w. way_meaning scope anywhere w.0 w.1) r) (sym (map_last f xs front last e p is))
      (gives_to_attribute scope anywhere L (map f front) p end ends r gives)

-- steps and a test
pub gives_both : {W U V X Y : Type 0} (I : W → Type 0) (J : U → Type 0) (m : W → Option V) (n : U → Option X) (f : V → X → Y) (values : Option V) (value : Option X) → Gives I m (Ok values) → Gives J n (Ok value)
    → Gives {W = W × U} (λ w. I w.0 × J w.1) (λ w. option_and_then (λ v. option_map (f v) (n w.1)) (m w.0)) (Ok (option_and_then (λ v. option_map (f v) value) values))
gives_both I J m n f values value all one = (
  ((all.0.0, one.0.0), (all.0.1, one.0.1)),
  λ w is. ap (λ vs. option_and_then (λ v. option_map (f v) (n w.1)) vs) (all.1 w.0 is.0) ∙ ap (λ x. option_and_then (λ v. option_map (f v) x) values) (one.1 w.1 is.1),
)

-- the pieces as they are cut, each without white space at its ends
pub trim_pieces : {X : Type 0} (f : X → List ℕ) (xs : List X) (cut : List (List ℕ)) → map f xs ≡ cut → map (λ x. trim_white (f x)) xs ≡ map trim_white cut
trim_pieces f xs cut e = sym (map-map trim_white f xs) ∙ ap (map trim_white) e
