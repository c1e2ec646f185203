-- Small streams.
use Rattle.std.specs.Prelude.{◌≡◌, ℕ, List, [], ◌∷◌, ◌++◌, true, false, codes, refl}
use Rattle.std.specs.Str.{is_utf8, chars}
use lib.Utf8.{encode}
use Rattle.item_listing.specs.Items.{attribute, by_first}
use Rattle.item_listing.specs.State.{unread}
use Rattle.item_listing.specs.Listed.{listed, gives, refused, goes_on, done}
use Rattle.item_listing.specs.declared.item.Item.TheVariants.{Start, Attr, Chars, End}
use Rattle.item_listing.specs.declared.item.Reason.TheVariants.{BadAttributePlace, EndMissing, AfterEnd}

-- a line and its line feed
abbrev ended : List ℕ → List ℕ
ended line = line ++ 10 ∷ []

-- the carriage return is dropped, and a backslash and n stand for a line feed
text : listed unread (ended (codes "-a\\n" ++ 13 ∷ []) ++ ended (codes "end")) true ≡ gives (Chars (97 ∷ 10 ∷ [])) (gives End done)
unfolding is_utf8 chars encode attribute by_first
text = refl

-- the space is not of the value
an_attribute : listed unread (ended (codes "(a") ++ ended (codes "Ab c")) false ≡ gives (Start (codes "a")) (gives (Attr (codes "b") (codes "c")) goes_on)
unfolding is_utf8 chars encode attribute by_first
an_attribute = refl

second_line : listed unread (ended (codes "-a") ++ ended (codes "Ab c") ++ ended (codes "?")) false ≡ gives (Chars (codes "a")) (refused (record { line = 2; reason = BadAttributePlace }))
unfolding is_utf8 chars encode attribute by_first
second_line = refl

-- the source ends in the second line
no_end : listed unread (ended (codes "(a") ++ codes "en") true ≡ gives (Start (codes "a")) (refused (record { line = 2; reason = EndMissing }))
unfolding is_utf8 chars encode attribute by_first
no_end = refl

one_byte_more : listed unread (ended (codes "end") ++ 10 ∷ []) false ≡ gives End (refused (record { line = 2; reason = AfterEnd }))
unfolding is_utf8 chars encode attribute by_first
one_byte_more = refl
