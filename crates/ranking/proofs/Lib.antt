pub mod RankLaws
pub mod MemberLaws
pub mod SetLaws
pub mod KeptLaws
pub mod RootLaws
