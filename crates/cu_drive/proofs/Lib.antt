pub mod DrivenTexts
pub mod FourFields
