use Rattle.als_http.proofs.telling.query_of.Goals as goal

pub returns : goal.returns
returns c = cc
