mod FrontLaws
mod JudgeLaws
mod LengthLaws
mod ReadingLaws
mod ScanLaws
mod TextLaws
