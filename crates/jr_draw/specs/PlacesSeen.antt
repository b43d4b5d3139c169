-- Internal: the program's `Places` as the definitions see them.
use Rattle.jr_model.specs.Draws.{Places as Seen, sequential, mapped, unmapped}
use Rattle.jr_draw.specs.declared.places.Places.{Places}
use Rattle.jr_draw.specs.declared.places.Places.TheVariants.{Sequential, Mapped, Unmapped}

abbrev pub places_of : Places → Seen
places_of Sequential = sequential
places_of (Mapped taken) = mapped taken
places_of Unmapped = unmapped
