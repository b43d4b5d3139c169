use Rattle.std.proofs.Common.{◌^◌, sym}
use Rattle.std.specs.Str.Parse.{digits_value}
use Rattle.jr_text.proofs.NumberLemmas.{scale_small, scale_positive, scaled_large}
use Rattle.jr_text.proofs.numbers.scaled_number.Goals as goal

pub pow-scale-requires : goal.pow-scale-requires
pow-scale-requires c = scale_small c.args.power c.requires.power

pub returns-in-None : goal.returns-in-None
returns-in-None c =
    sym (scaled_large (digits_value 10 c.args.digits.now) (1024 ^ c.args.power) c.in-None.ensures (scale_positive c.args.power c.requires.power))
