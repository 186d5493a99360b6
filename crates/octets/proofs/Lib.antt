-- SPDX-License-Identifier: MPL-2.0
pub mod Places
pub mod Alike
