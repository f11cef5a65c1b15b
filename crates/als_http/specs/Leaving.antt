-- An answer that may be the last one of its connection.
use Rattle.std.specs.Prelude.{◌≡◌, ◌⊎◌, ◌∷◌, ◌++◌, [], codes}
use Rattle.http1.specs.Fields.{Header}
use Rattle.http_server.specs.declared.response.Response.{Response}
use Rattle.http_server.specs.Response.{fields_of}

-- what says that a connection is closed behind an answer
abbrev pub close_field : Header
close_field = (codes "connection", codes "close")

-- the same answer, which may say beside that it is the last one
pub record IsSaid (own said : Response) : Type 0 where
  pub status : said.status ≡ own.status
  pub body : said.body ≡ own.body
  pub fields : (fields_of said ≡ fields_of own) ⊎ (fields_of said ≡ fields_of own ++ close_field ∷ [])
