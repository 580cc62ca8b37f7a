-- `library::say` meets its contract. Assumes nothing.
use Rattle.std.proofs.Common.{◌≡◌, ◌∙◌, length, sym, subst}
use Rattle.session.specs.Values.{Values}
use Rattle.loops.specs.Loop.{tab, from}
use Rattle.std.specs.Float.Ieee.{nan}
use Rattle.image.specs.Image.{fields}
use Rattle.session.proofs.Inverse.{spelt}
use Rattle.library.proofs.Laws.{counts_three, said_words}
use Rattle.library.proofs.say.Goals as goal

pub returns : goal.returns
unfolding tab from
returns c =
    let reply = c.reply_of-r.ensures in
    record {
      words = c.copy_from_slice.ensures.after
          ∙ rw (← reply) (said_words _ (fields c.reply_of-r.result) c.from.ensures (subst (λ (v : Values). length v.counts ≡ 3) (sym reply) (counts_three _)));
      told = rw (← reply, spelt nan 1 c.args.told.now c.requires.told);
    }
