-- Shares, computed: 1/3, 2/3, 1/2, none, all, half a millionth, less than that, no event.
use mathlib.Core.Path.{◌≡◌, refl}
use Rattle.basics.specs.Text.{bytes}
use Rattle.figures.specs.Numbers.{digits, width_up_to, width, decimal}
use Rattle.figures.specs.Share.{millionths, with_point, share}

pub third : share 1 4 ≡ bytes "0.333333"
unfolding share with_point millionths bytes decimal width width_up_to digits
third = refl

pub two_thirds : share 2 4 ≡ bytes "0.666667"
unfolding share with_point millionths bytes decimal width width_up_to digits
two_thirds = refl

pub half : share 1 3 ≡ bytes "0.500000"
unfolding share with_point millionths bytes decimal width width_up_to digits
half = refl

pub nothing : share 0 6 ≡ bytes "0.000000"
unfolding share with_point millionths bytes decimal width width_up_to digits
nothing = refl

pub all : share 65534 65535 ≡ bytes "1.000000"
unfolding share with_point millionths bytes decimal width width_up_to digits
all = refl

-- exactly half a millionth goes up, and what is less goes down
pub half_up : share 1 2000001 ≡ bytes "0.000001"
unfolding share with_point millionths bytes decimal width width_up_to digits
half_up = refl

pub less_down : share 1 2000002 ≡ bytes "0.000000"
unfolding share with_point millionths bytes decimal width width_up_to digits
less_down = refl

pub no_event : share 0 1 ≡ bytes "-"
unfolding share bytes
no_event = refl
