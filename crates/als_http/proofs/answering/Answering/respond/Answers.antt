use Rattle.als_http.proofs.answering.Answering.respond.Goals as goal

pub returns : goal.returns
returns g c = record {
  reply = c.reply-made.result;
  replies = c.reply-made.ensures.reply;
  goes_on = c.reply-made.ensures.reader;
  shows = c.show.ensures;
}
