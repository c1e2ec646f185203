-- Runs of characters and instructions inside of the root, and white space outside of it.
use Rattle.std.proofs.Common.{◌≡◌, ℕ, ◌+◌, ◌≤◌, List, [], ◌∷◌, ◌++◌, Bool, true, false, ◌==◌, Result, Ok, Err, length, refl, sym, ap, ◌∙◌, append_assoc, append-nil, subst}
use Rattle.item_listing.specs.declared.item.Item.{Item}
use Rattle.item_listing.specs.declared.item.Item.TheVariants as items
use Rattle.tree_rows.specs.declared.row.Binding.{Binding}
use Rattle.tree_rows.specs.declared.row.Row.{Row}
use Rattle.tree_building.specs.Building.{◌>>=◌, counted, settled_by, text_begun, text_by, tag_closed_by, took, passed, after_all}
use Rattle.tree_building.specs.Nest.{OpenElement}
use Rattle.tree_building.specs.Steps.{holds_chars}
use Rattle.tree_building.specs.declared.pending.Pending.{Pending}
use Rattle.tree_building.specs.declared.pending.Pending.TheVariants as pending
use Rattle.tree_building.specs.declared.building.Building.{Building}
use Rattle.tree_building.specs.declared.fault.TreeFault.{TreeFault}
use Rattle.tree_building.specs.Spelling.{AreRun, run_chars, IsRunOf, AreSpace}
use Rattle.tree_building.proofs.States.{At, Outside, empty_text, text_starts}

-- where a text begins, no characters wait
pub text_first : (own : List ℕ) (b : Building) (p : Pending) → holds_chars p ≡ false → text_by own b p ≡ (settled_by b p >>= text_begun own)
text_first own b pending.Nothing e = refl
text_first own b (pending.Start tag item) e = refl
text_first own b (pending.Chars chars) e = cc

-- a step after which what came last settles to the same, with another count of items
pub record Stays (b : Building) (answer : Result Building TreeFault) (rows : List Row) (outer : List Binding) (elements : List OpenElement) (next : ℕ) : Type 0 where
  pub then : Building
  pub taken : ℕ
  pub goes : answer ≡ Ok then
  pub settles : settled_by then then.pending ≡ Ok (At rows outer elements pending.Nothing next taken)
  pub holds : holds_chars then.pending ≡ holds_chars b.pending

empty_by : (b : Building) (p : Pending) (rows : List Row) (outer : List Binding) (e : OpenElement) (elements : List OpenElement) (next taken : ℕ)
    → b.pending ≡ p → settled_by b p ≡ Ok (At rows outer (e ∷ elements) pending.Nothing next taken) → Stays b (text_by [] b p) rows outer (e ∷ elements) next
empty_by b pending.Nothing rows outer e elements next taken q s = record {
  then = At rows outer (e ∷ elements) pending.Nothing next (taken + 1);
  taken = taken + 1;
  goes = ap (λ r. r >>= text_begun []) s ∙ empty_text rows outer e elements next taken;
  settles = refl;
  holds = ap holds_chars (sym q);
}
empty_by b (pending.Start tag item) rows outer e elements next taken q s = record {
  then = At rows outer (e ∷ elements) pending.Nothing next (taken + 1);
  taken = taken + 1;
  goes = ap (λ r. r >>= text_begun []) s ∙ empty_text rows outer e elements next taken;
  settles = refl;
  holds = ap holds_chars (sym q);
}
empty_by b (pending.Chars chars) rows outer e elements next taken q s = record {
  then = record (counted b) { pending = pending.Chars (chars ++ []) };
  taken = taken + 1;
  goes = refl;
  settles = ap (λ cs. settled_by (record (counted b) { pending = pending.Chars (chars ++ []) }) (pending.Chars cs)) (append-nil chars)
      ∙ ap (λ r. r >>= (λ x. Ok (counted x))) s;
  holds = ap holds_chars (sym q);
}

passed_by : (b : Building) (p : Pending) (rows : List Row) (outer : List Binding) (e : OpenElement) (elements : List OpenElement) (next taken : ℕ)
    → b.pending ≡ p → settled_by b p ≡ Ok (At rows outer (e ∷ elements) pending.Nothing next taken) → Stays b (tag_closed_by b p >>= passed) rows outer (e ∷ elements) next
passed_by b pending.Nothing rows outer e elements next taken q s = record {
  then = At rows outer (e ∷ elements) pending.Nothing next (taken + 1);
  taken = taken + 1;
  goes = ap (λ r. r >>= passed) s;
  settles = refl;
  holds = ap holds_chars (sym q);
}
passed_by b (pending.Start tag item) rows outer e elements next taken q s = record {
  then = At rows outer (e ∷ elements) pending.Nothing next (taken + 1);
  taken = taken + 1;
  goes = ap (λ r. r >>= passed) s;
  settles = refl;
  holds = ap holds_chars (sym q);
}
passed_by b (pending.Chars chars) rows outer e elements next taken q s = record {
  then = record (counted b) { pending = pending.Chars chars };
  taken = taken + 1;
  goes = ap (λ p. Ok (record (counted b) { pending = p })) q;
  settles = ap (λ r. r >>= (λ x. Ok (counted x))) s;
  holds = ap holds_chars (sym q);
}

-- what is read of items, up to some others
pub record ReadsSilent (b : Building) (its rest : List Item) (rows : List Row) (outer : List Binding) (elements : List OpenElement) (next : ℕ) : Type 0 where
  pub then : Building
  pub taken : ℕ
  pub goes : after_all (Ok b) (its ++ rest) ≡ after_all (Ok then) rest
  pub settles : settled_by then then.pending ≡ Ok (At rows outer elements pending.Nothing next taken)
  pub holds : holds_chars then.pending ≡ holds_chars b.pending

stays_read : (b : Building) (item : Item) (its rest : List Item) (rows : List Row) (outer : List Binding) (elements : List OpenElement) (next : ℕ)
    → (s : Stays b (took b item) rows outer elements next) → ReadsSilent s.then its rest rows outer elements next → ReadsSilent b (item ∷ its) rest rows outer elements next
stays_read b item its rest rows outer elements next s r = record {
  then = r.then;
  taken = r.taken;
  goes = ap (λ x. after_all x (its ++ rest)) s.goes ∙ r.goes;
  settles = r.settles;
  holds = r.holds ∙ s.holds;
}

-- a run without characters
pub silent_read : (its rest : List Item) (b : Building) (rows : List Row) (outer : List Binding) (e : OpenElement) (elements : List OpenElement) (next taken : ℕ)
    → AreRun its → run_chars its ≡ [] → settled_by b b.pending ≡ Ok (At rows outer (e ∷ elements) pending.Nothing next taken)
    → ReadsSilent b its rest rows outer (e ∷ elements) next
silent_read [] rest b rows outer e elements next taken run none s = record { then = b; taken = taken; goes = refl; settles = s; holds = refl }
silent_read (items.Chars [] ∷ its) rest b rows outer e elements next taken run none s =
    let one = empty_by b b.pending rows outer e elements next taken refl s in
    stays_read b (items.Chars []) its rest rows outer (e ∷ elements) next one (silent_read its rest one.then rows outer e elements next one.taken run none one.settles)
silent_read (items.Chars (c ∷ chars) ∷ its) rest b rows outer e elements next taken run none s = cc
silent_read (items.Instruction ∷ its) rest b rows outer e elements next taken run none s =
    let one = passed_by b b.pending rows outer e elements next taken refl s in
    stays_read b items.Instruction its rest rows outer (e ∷ elements) next one (silent_read its rest one.then rows outer e elements next one.taken run none one.settles)
silent_read (items.Start name ∷ its) rest b rows outer e elements next taken run none s = absurd run
silent_read (items.Attr name value ∷ its) rest b rows outer e elements next taken run none s = absurd run
silent_read (items.Close name ∷ its) rest b rows outer e elements next taken run none s = absurd run
silent_read (items.Schema locations ∷ its) rest b rows outer e elements next taken run none s = absurd run
silent_read (items.Document ∷ its) rest b rows outer e elements next taken run none s = absurd run
silent_read (items.Edits ∷ its) rest b rows outer e elements next taken run none s = absurd run
silent_read (items.End ∷ its) rest b rows outer e elements next taken run none s = absurd run
silent_read (items.Dot ∷ its) rest b rows outer e elements next taken run none s = absurd run
silent_read (items.Command line ∷ its) rest b rows outer e elements next taken run none s = absurd run

-- more characters of a text
pub chars_read : (its rest : List Item) (chars : List ℕ) (rows : List Row) (outer : List Binding) (elements : List OpenElement) (next taken : ℕ) → AreRun its
    → (t : ℕ) × (after_all (Ok (At rows outer elements (pending.Chars chars) next taken)) (its ++ rest) ≡ after_all (Ok (At rows outer elements (pending.Chars (chars ++ run_chars its)) next t)) rest)
chars_read [] rest chars rows outer elements next taken run =
    (taken, ap (λ cs. after_all (Ok (At rows outer elements (pending.Chars cs) next taken)) rest) (sym (append-nil chars)))
chars_read (items.Chars more ∷ its) rest chars rows outer elements next taken run =
    let later = chars_read its rest (chars ++ more) rows outer elements next (taken + 1) run in
    (later.0, later.1 ∙ ap (λ cs. after_all (Ok (At rows outer elements (pending.Chars cs) next later.0)) rest) (append_assoc chars more (run_chars its)))
chars_read (items.Instruction ∷ its) rest chars rows outer elements next taken run = chars_read its rest chars rows outer elements next (taken + 1) run
chars_read (items.Start name ∷ its) rest chars rows outer elements next taken run = absurd run
chars_read (items.Attr name value ∷ its) rest chars rows outer elements next taken run = absurd run
chars_read (items.Close name ∷ its) rest chars rows outer elements next taken run = absurd run
chars_read (items.Schema locations ∷ its) rest chars rows outer elements next taken run = absurd run
chars_read (items.Document ∷ its) rest chars rows outer elements next taken run = absurd run
chars_read (items.Edits ∷ its) rest chars rows outer elements next taken run = absurd run
chars_read (items.End ∷ its) rest chars rows outer elements next taken run = absurd run
chars_read (items.Dot ∷ its) rest chars rows outer elements next taken run = absurd run
chars_read (items.Command line ∷ its) rest chars rows outer elements next taken run = absurd run

-- a text is read where no characters wait
abbrev ReadsText : List Item → List Item → Building → List ℕ → List Row → List Binding → List OpenElement → ℕ → Type 0
ReadsText its rest b chars rows outer elements next =
    (t : ℕ) × (after_all (Ok b) (its ++ rest) ≡ after_all (Ok (At rows outer elements (pending.Chars chars) next t)) rest)

text_stays : (b : Building) (item : Item) (its rest : List Item) (chars : List ℕ) (rows : List Row) (outer : List Binding) (elements : List OpenElement) (next : ℕ)
    → (s : Stays b (took b item) rows outer elements next) → ReadsText its rest s.then chars rows outer elements next → ReadsText (item ∷ its) rest b chars rows outer elements next
text_stays b item its rest chars rows outer elements next s r = (r.0, ap (λ x. after_all x (its ++ rest)) s.goes ∙ r.1)

pub run_read : (its rest : List Item) (b : Building) (rows : List Row) (outer : List Binding) (e : OpenElement) (elements : List OpenElement) (next taken : ℕ)
    → AreRun its → (run_chars its ≡ [] → ⊥) → next ≤ 131072 → holds_chars b.pending ≡ false
    → settled_by b b.pending ≡ Ok (At rows outer (e ∷ elements) pending.Nothing next taken)
    → ReadsText its rest b (run_chars its) rows outer (e ∷ elements) next
run_read [] rest b rows outer e elements next taken run some few fresh s = absurd (some refl)
run_read (items.Chars [] ∷ its) rest b rows outer e elements next taken run some few fresh s =
    let one = empty_by b b.pending rows outer e elements next taken refl s in
    text_stays b (items.Chars []) its rest (run_chars its) rows outer (e ∷ elements) next one
    (run_read its rest one.then rows outer e elements next one.taken run some few (one.holds ∙ fresh) one.settles)
run_read (items.Chars (c ∷ chars) ∷ its) rest b rows outer e elements next taken run some few fresh s =
    let came : took b (items.Chars (c ∷ chars)) ≡ Ok (At rows outer (e ∷ elements) (pending.Chars (c ∷ chars)) next (taken + 1)) =
    text_first (c ∷ chars) b b.pending fresh ∙ ap (λ r. r >>= text_begun (c ∷ chars)) s ∙ text_starts (c ∷ chars) rows outer e elements next taken (λ z. cc) few in
    let later = chars_read its rest (c ∷ chars) rows outer (e ∷ elements) next (taken + 1) run in
    (later.0, ap (λ x. after_all x (its ++ rest)) came ∙ later.1)
run_read (items.Instruction ∷ its) rest b rows outer e elements next taken run some few fresh s =
    let one = passed_by b b.pending rows outer e elements next taken refl s in
    text_stays b items.Instruction its rest (run_chars its) rows outer (e ∷ elements) next one
    (run_read its rest one.then rows outer e elements next one.taken run some few (one.holds ∙ fresh) one.settles)
run_read (items.Start name ∷ its) rest b rows outer e elements next taken run some few fresh s = absurd run
run_read (items.Attr name value ∷ its) rest b rows outer e elements next taken run some few fresh s = absurd run
run_read (items.Close name ∷ its) rest b rows outer e elements next taken run some few fresh s = absurd run
run_read (items.Schema locations ∷ its) rest b rows outer e elements next taken run some few fresh s = absurd run
run_read (items.Document ∷ its) rest b rows outer e elements next taken run some few fresh s = absurd run
run_read (items.Edits ∷ its) rest b rows outer e elements next taken run some few fresh s = absurd run
run_read (items.End ∷ its) rest b rows outer e elements next taken run some few fresh s = absurd run
run_read (items.Dot ∷ its) rest b rows outer e elements next taken run some few fresh s = absurd run
run_read (items.Command line ∷ its) rest b rows outer e elements next taken run some few fresh s = absurd run

-- white space outside of the root
pub space_read : (its rest : List Item) (rows : List Row) (outer : List Binding) (rooted : Bool) (next taken : ℕ) → AreSpace its
    → (t : ℕ) × (after_all (Ok (Outside rows outer rooted next taken)) (its ++ rest) ≡ after_all (Ok (Outside rows outer rooted next t)) rest)
space_read [] rest rows outer rooted next taken white = (taken, refl)
space_read (items.Chars chars ∷ its) rest rows outer rooted next taken white =
    let came : took (Outside rows outer rooted next taken) (items.Chars chars) ≡ Ok (Outside rows outer rooted next (taken + 1)) = rw (white.0) refl in
    let later = space_read its rest rows outer rooted next (taken + 1) white.1 in
    (later.0, ap (λ x. after_all x (its ++ rest)) came ∙ later.1)
space_read (items.Instruction ∷ its) rest rows outer rooted next taken white = space_read its rest rows outer rooted next (taken + 1) white
space_read (items.Start name ∷ its) rest rows outer rooted next taken white = absurd white
space_read (items.Attr name value ∷ its) rest rows outer rooted next taken white = absurd white
space_read (items.Close name ∷ its) rest rows outer rooted next taken white = absurd white
space_read (items.Schema locations ∷ its) rest rows outer rooted next taken white = absurd white
space_read (items.Document ∷ its) rest rows outer rooted next taken white = absurd white
space_read (items.Edits ∷ its) rest rows outer rooted next taken white = absurd white
space_read (items.End ∷ its) rest rows outer rooted next taken white = absurd white
space_read (items.Dot ∷ its) rest rows outer rooted next taken white = absurd white
space_read (items.Command line ∷ its) rest rows outer rooted next taken white = absurd white
