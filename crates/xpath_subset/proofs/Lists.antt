-- Texts that are read one by one.
use Rattle.std.proofs.Common.{◌≡◌, ℕ, ◌+◌, ◌<◌, suc, length, get_or, take, drop, drop-cons, List, [], ◌∷◌, ◌++◌, map, Option, None, Some, Ok, Err, refl, sym, ◌∙◌, ap, subst}
use Rattle.std.specs.Option.{option_map}
use Rattle.std.proofs.lemmas.List.{take_more, take-append-drop, map-append}
use Rattle.xpath_subset.specs.declared.reading.Refusal.{Refusal}
use Rattle.xpath_subset.specs.declared.reading.Refusal.TheVariants.{Memory, Syntax}
use Rattle.xpath_subset.specs.inside.Gives.{Gives, AreWritten, with_one}
use Rattle.xpath_subset.specs.Grammar.{all_there}

module _ {W : Type 0} (I : W → List ℕ → Type 0) where
  pub written_more : (ws : List W) (w : W) (texts : List (List ℕ)) (text : List ℕ) → AreWritten I ws texts → I w text → AreWritten I (ws ++ w ∷ []) (texts ++ text ∷ [])
  written_more [] w [] text are is = (is, tt)
  written_more [] w (t ∷ texts) text are is = absurd are
  written_more (first ∷ ws) w [] text are is = absurd are
  written_more (first ∷ ws) w (t ∷ texts) text are is = (are.0, written_more ws w texts text are.1 is)

  pub written_cut : (ws : List W) (texts : List (List ℕ)) (text : List ℕ) → AreWritten I ws (texts ++ text ∷ []) → (front : List W) × (last : W) × (ws ≡ front ++ last ∷ []) × AreWritten I front texts × I last text
  written_cut [] [] text are = absurd are
  written_cut [] (t ∷ texts) text are = absurd are
  written_cut (w ∷ []) [] text are = ([], w, refl, tt, are.0)
  written_cut (w ∷ v ∷ ws) [] text are = absurd are.1
  written_cut (w ∷ ws) (t ∷ texts) text are =
      let rest = written_cut ws texts text are.1 in
      (w ∷ rest.0, rest.1, ap (λ more. w ∷ more) rest.2, (are.0, rest.3), rest.4)

module _ {W V : Type 0} (I : W → List ℕ → Type 0) (m : W → Option V) where
  put : V → Option (List V) → Option (List V)
  put value values = option_map (λ rest. value ∷ rest) values

  there_more : (ws : List W) (w : W) → all_there (map m (ws ++ w ∷ [])) ≡ with_one (all_there (map m ws)) (m w)
  there_more [] w = by (m w)
    where
      by : (read : Option V) → all_there (read ∷ []) ≡ with_one (Some []) read
      by None = refl
      by (Some value) = refl
  there_more (first ∷ ws) w = by (m first) (there_more ws w)
    where
      by : (read : Option V) → all_there (map m (ws ++ w ∷ [])) ≡ with_one (all_there (map m ws)) (m w) → all_there (read ∷ map m (ws ++ w ∷ [])) ≡ with_one (all_there (read ∷ map m ws)) (m w)
      by None e = refl
      by (Some value) e = ap (option_map (λ rest. value ∷ rest)) e ∙ at (all_there (map m ws)) (m w)
        where
          at : (values : Option (List V)) (read : Option V) → option_map (λ rest. value ∷ rest) (with_one values read) ≡ with_one (option_map (λ rest. value ∷ rest) values) read
          at None read = refl
          at (Some values) None = refl
          at (Some values) (Some last) = refl

  -- one text more
  pub gives_more : (texts : List (List ℕ)) (text : List ℕ) (values : Option (List V)) (read : Option V) → Gives (λ ws. AreWritten I ws texts) (λ ws. all_there (map m ws)) (Ok values) → Gives (λ w. I w text) m (Ok read) → Gives (λ ws. AreWritten I ws (texts ++ text ∷ [])) (λ ws. all_there (map m ws)) (Ok (with_one values read))
  gives_more texts text values read all one = (
    (all.0.0 ++ one.0.0 ∷ [], written_more I all.0.0 one.0.0 texts text all.0.1 one.0.1),
    λ ws are.
        let cut = written_cut I ws texts text are in
        ap (λ list. all_there (map m list)) cut.2 ∙ there_more cut.0 cut.1 ∙ ap (λ values. with_one values (m cut.1)) (all.1 cut.0 cut.3) ∙ ap (with_one values) (one.1 cut.1 cut.4),
  )

  -- a text that is written in no way
  pub gives_none : (texts : List (List ℕ)) (text : List ℕ) (later : List (List ℕ)) → ((w : W) → ¬ (I w text)) → (ws : List W) → AreWritten I ws (texts ++ text ∷ later) → ⊥
  gives_none [] text later never [] are = are
  gives_none [] text later never (w ∷ ws) are = never w are.0
  gives_none (t ∷ texts) text later never [] are = are
  gives_none (t ∷ texts) text later never (w ∷ ws) are = gives_none texts text later never ws are.1

  -- no texts
  pub gives_nothing : Gives (λ ws. AreWritten I ws []) (λ ws. all_there (map m ws)) (Ok (Some []))
  gives_nothing = (([], tt), by)
    where
      by : (ws : List W) → AreWritten I ws [] → all_there (map m ws) ≡ Some []
      by [] are = refl
      by (w ∷ ws) are = absurd are

  -- the texts up to an index, and up to the next
  pub gives_next : {X : Type 0} (f : X → List ℕ) (xs : List X) (i : ℕ) (d : X) (text : List ℕ) (values : Option (List V)) (read : Option V) → i < length xs → text ≡ f (get_or xs i d) → Gives (λ ws. AreWritten I ws (map f (take i xs))) (λ ws. all_there (map m ws)) (Ok values) → Gives (λ w. I w text) m (Ok read) → Gives (λ ws. AreWritten I ws (map f (take (i + 1) xs))) (λ ws. all_there (map m ws)) (Ok (with_one values read))
  gives_next f xs i d text values read below is all one =
      let more : map f (take (i + 1) xs) ≡ map f (take i xs) ++ text ∷ [] = ap (map f) (take_more xs i d below) ∙ map-append f (take i xs) (get_or xs i d ∷ []) ∙ ap (λ t. map f (take i xs) ++ t ∷ []) (sym is) in
      subst (λ texts. Gives (λ ws. AreWritten I ws texts) (λ ws. all_there (map m ws)) (Ok (with_one values read))) (sym more) (gives_more (map f (take i xs)) text values read all one)

  -- the texts where the one at an index is written in no way
  pub gives_not : {X : Type 0} (f : X → List ℕ) (xs : List X) (i : ℕ) (d : X) (text : List ℕ) → i < length xs → text ≡ f (get_or xs i d) → (refusal : Refusal) → Gives {V = V} (λ w. I w text) m (Err refusal) → Gives {V = List V} (λ ws. AreWritten I ws (map f xs)) (λ ws. all_there (map m ws)) (Err refusal)
  gives_not f xs i d text below is Memory none = tt
  gives_not f xs i d text below is Syntax none = λ ws are.
      let whole : xs ≡ take i xs ++ get_or xs i d ∷ drop (suc i) xs = sym (take-append-drop i xs) ∙ ap (λ rest. take i xs ++ rest) (drop-cons xs i d below) in
      let texts : map f xs ≡ map f (take i xs) ++ text ∷ map f (drop (suc i) xs) = ap (map f) whole ∙ map-append f (take i xs) (get_or xs i d ∷ drop (suc i) xs) ∙ ap (λ t. map f (take i xs) ++ t ∷ map f (drop (suc i) xs)) (sym is) in
      gives_none (map f (take i xs)) text (map f (drop (suc i) xs)) none ws (subst (AreWritten I ws) texts are)
