use Rattle.objects.proofs.NumberTexts.{spell_turn, spell_end}
use Rattle.objects.proofs.integers.digits.Goals as goal

pub loop-i-preserved : goal.loop-i-preserved
loop-i-preserved c = search spell_turn

pub returns-then-left-lt10 : goal.returns-then-left-lt10
returns-then-left-lt10 c = search spell_end
