-- What contracts see of a place.
use Rattle.kept_next.specs.Place.{ListPlace, IsPlace}
use Rattle.kept_next.specs.declared.place.AroundAt.TheInside.{Inside}

abbrev pub place_of : Inside → ListPlace
place_of x = record { lists = x.lists.now; list = x.list; automaton = x.automaton.now; symbols = x.symbols.items; place = x.place }

abbrev pub IsHeld : Inside → Type 0
IsHeld x = IsPlace (place_of x)
