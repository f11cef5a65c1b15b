use Rattle.als_record.proofs.PageImages.{page_at-image_now}
use Rattle.als_laws.proofs.outcomes.pages_show_keys.Goals as goal

pub returns : goal.returns
returns c log k q lt e = page_at-image_now log k q lt e
